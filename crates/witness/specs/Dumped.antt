-- What a host in C may demand of a dump: all that comes out, in the words of the format.
use Rattle.std.specs.Prelude.{◌≡◌, ℕ, length}
use Rattle.lines.specs.Shown.{Lent, SeenLent}
use Rattle.intelhex.specs.Dump.{told, wrote, read_answer, read_image, write_answer, write_out}
use Rattle.export.specs.Dumps.{Number}

abbrev pub ReadAs : SeenLent → Lent → Number → ℕ → Type 0
ReadAs text image line answer =
    (told answer line.exit.now ≡ read_answer (length image.entry.now) text.entry.now)
    × (image.exit.now ≡ read_image image.entry.now text.entry.now)

abbrev pub WrittenAs : SeenLent → Lent → Number → ℕ → Type 0
WrittenAs image out count answer =
    (wrote answer count.exit.now ≡ write_answer (length image.entry.now) (length out.entry.now))
    × (out.exit.now ≡ write_out image.entry.now out.entry.now)
