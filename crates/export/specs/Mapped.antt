-- How a caller in C reads what a run with a map leaves: the answer and `out` as of a run, and the map.
use Rattle.std.specs.Prelude.{ℕ}
use Rattle.rules.specs.Reads.{mapped_run, map_left}
use Rattle.machine.specs.Meaning.{Lent, Parts}
use Rattle.bench.specs.Meaning.{Sees}
use Rattle.export.specs.Meaning.{stands, Hears}

abbrev pub HearsMapped : ℕ → (Parts → Parts) → Lent → ℕ → ℕ → ℕ → ℕ → ℕ → ℕ → ℕ → Lent → Type 0
HearsMapped n parts map pc used ring place w source answer out =
    Hears (mapped_run n map.entry.now) parts pc used ring place w source answer out × Sees (map_left n) parts map (stands pc used ring place w source)
