-- Whole inputs and what they print: 01's sample, lines that say nothing, and a last line without its line feed. By computing.
-- Assumes nothing.
use Rattle.std.proofs.Common.{◌≡◌, refl, ◌++◌}
use Rattle.rules.proofs.Compute.{every_rule}
use Rattle.lines.specs.Ascii.{ascii}
use Rattle.lines.specs.Digits.{before, digit, glyph, numeral_from, numeral, up_to, digits_of, width_in, width, show_decimal, show_hex}
use Rattle.lines.specs.Digits.{byte_of, bytes, all_hex, byte_count, begins, laid}
use Rattle.lines.specs.Lines.{placed, set_line, jumping, pc_line, running, run_line, go_line, line_of}
use Rattle.lines.specs.Shown.{counts_text, answer_line, pc_text, cell_text, changed, run_lines, bad_line}
use Rattle.desk.specs.Desk.{cut, heard, told, whole}

-- names each definition once
unfoldable every_line : Unit {0}
unfolding every_rule before digit glyph numeral_from numeral up_to digits_of width_in width show_decimal show_hex byte_of bytes all_hex byte_count begins laid
    placed set_line jumping pc_line running run_line go_line line_of counts_text answer_line pc_text cell_text changed run_lines bad_line cut heard told whole
every_line = tt

-- what 01 gives as an example, with the fourth number of 02, item 2
pub sample : whole (ascii "grom\t0000\t08412AFB\npad\t7E\t171F\nrun\t1\n")
    ≡ ascii "answer\t0\t1\t8\t0000\npc\t0004\npad\t7E\t00\npad\t7F\t01\nvdp\t0000\t2A\nvdp\t02FF\t2A\n"
unfolding every_line
sample = refl

-- "`bad`, its number from 1, stop": the run before it prints, and the one after it does not
pub stopped : whole (ascii "run\t0\nrun 0\nrun\t0\n") ≡ whole (ascii "run\t0\n") ++ ascii "bad\t2\n"
unfolding every_line
stopped = refl

-- the last line may lack its line feed; one more line feed is an empty line, which says nothing
pub unended : whole (ascii "run\t0") ≡ whole (ascii "run\t0\n")
unfolding every_line
unended = refl

pub emptied : whole (ascii "run\t0\n\n") ≡ whole (ascii "run\t0\n") ++ ascii "bad\t2\n"
unfolding every_line
emptied = refl
