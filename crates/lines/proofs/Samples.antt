-- The sample of 01's last lines, read and printed by the rules; and lines that are `bad`, each for another reason. By computing.
-- Assumes nothing.
use Rattle.std.proofs.Common.{◌≡◌, refl, List, [], ◌∷◌, ◌++◌, map, ℕ, replicate}
use Rattle.lines.specs.Ascii.{ascii}
use Rattle.lines.specs.Digits.{before, digit, glyph, numeral_from, numeral, up_to, digits_of, width_in, width, show_decimal, show_hex}
use Rattle.lines.specs.Digits.{byte_of, bytes, all_hex, byte_count, begins, laid}
use Rattle.lines.specs.Lines.{grom, pad, sets, runs, bad, placed, set_line, jumping, pc_line, running, run_line, go_line, line_of}
use Rattle.lines.specs.Shown.{counts_text, answer_line, pc_text, cell_text, changed, run_lines, bad_line}

-- "grom 0000 08412AFB, pad 7E 171F, run 1"
pub sample_read : map line_of (ascii "grom\t0000\t08412AFB" ∷ ascii "pad\t7E\t171F" ∷ ascii "run\t1" ∷ [])
    ≡ sets grom 0 (0x08 ∷ 0x41 ∷ 0x2A ∷ 0xFB ∷ []) ∷ sets pad 0x7E (0x17 ∷ 0x1F ∷ []) ∷ runs 1 ∷ []
unfolding before digit numeral_from numeral up_to byte_of bytes all_hex byte_count begins placed set_line running run_line go_line line_of
sample_read = refl

-- parts that were all 0 but for >171F in the pad's >7E, and what the sample's run made of them
abbrev pad_was : List ℕ
pad_was = laid (replicate 256 0) 0x7E (0x17 ∷ 0x1F ∷ [])

abbrev pad_is : List ℕ
pad_is = laid (replicate 256 0) 0x7E (0x00 ∷ 0x01 ∷ [])

abbrev vdp_was : List ℕ
vdp_was = replicate 768 0

abbrev vdp_is : List ℕ
vdp_is = laid (laid vdp_was 0 (0x2A ∷ [])) 0x2FF (0x2A ∷ [])

-- what it prints, and the line for a twelfth line that says nothing
pub sample_printed : run_lines 0 1 8 0 4 pad_was pad_is vdp_was vdp_is [] [] ++ bad_line 12
    ≡ ascii "answer\t0\t1\t8\t0000\npc\t0004\npad\t7E\t00\npad\t7F\t01\nvdp\t0000\t2A\nvdp\t02FF\t2A\nbad\t12\n"
unfolding laid glyph digits_of width_in width show_decimal show_hex counts_text answer_line pc_text cell_text changed run_lines bad_line
sample_printed = refl

-- no line, a space, a carriage return, a small letter, an odd digit, no bytes, a field too many, past the end, three digits, no number, 2^32
pub sample_refused : map line_of (ascii "" ∷ ascii "run 1" ∷ ascii "run\t1\r" ∷ ascii "pad\t7e\t17" ∷ ascii "pad\t7E\t171" ∷ ascii "pad\t7E\t"
    ∷ ascii "pad\t7E\t17\t1F" ∷ ascii "reg\t07\t0000" ∷ ascii "pc\t004" ∷ ascii "run\t" ∷ ascii "run\t4294967296" ∷ [])
    ≡ bad ∷ bad ∷ bad ∷ bad ∷ bad ∷ bad ∷ bad ∷ bad ∷ bad ∷ bad ∷ bad ∷ []
unfolding before digit numeral_from numeral up_to byte_of bytes all_hex byte_count begins placed set_line jumping pc_line running run_line go_line line_of
sample_refused = refl
