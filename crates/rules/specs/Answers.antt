-- 01, "What a call says": the table of its answers. The calls themselves come last, in Calls.
use Rattle.std.specs.Prelude.{ℕ, ◌%◌}
use Rattle.rules.specs.Machine.{Kind, upon}

-- "No. | Given when". 0, "done", is no refusal, and so has no name here. 02, of 9: "strike it from the table .. and don't use the number again".
-- 02, item 2: 4, 5 and 6 come with "the offending 16-bit address".
pub data Why : Type 0 where
  -- "ended: opcode >0B (EXIT); nothing changes, pc stays on it"
  ended : Why
  -- "no such instruction"
  no_such : Why
  -- "needs the host: >03, >0F, >F4 to >F7"
  needs_host : Why
  -- "CPU offset above >DF, or a format operand decoded to a VDP cell"
  off_cpu : ℕ → Why
  -- "VDP address above >3FFF"
  off_vdp : ℕ → Why
  -- "GROM address beyond the image"
  off_grom : ℕ → Why
  -- "stack pointer out of its area"
  off_stack : Why
  -- "a 16,385th format code in one FMT, before it is read"
  too_long : Why
  -- "no journal word left"
  no_room : Why
  -- "a lent part has a wrong length, or used exceeds the journal"
  wrong_length : Why
  -- "step-back finds no sound record"
  no_record : Why
  -- "VDP register above 7"
  off_register : Why
  -- 02, item 3: "granularity above 7"
  too_coarse : Why
  -- 02, item 9: "group not writable"
  read_only : Why
  -- 02, item 10: "output full"
  output_full : Why

-- the answer's number
abbrev pub number : Why → ℕ
number ended = 1
number no_such = 2
number needs_host = 3
number (off_cpu a) = 4
number (off_vdp a) = 5
number (off_grom a) = 6
number off_stack = 7
number too_long = 8
number no_room = 10
number wrong_length = 11
number no_record = 12
number off_register = 13
number too_coarse = 23
number read_only = 24
number output_full = 26

-- 02, item 2: "It is 0 for every other answer"
abbrev pub address : Why → ℕ
address ended = 0
address no_such = 0
address needs_host = 0
address (off_cpu a) = a % 65536
address (off_vdp a) = a % 65536
address (off_grom a) = a % 65536
address off_stack = 0
address too_long = 0
address no_room = 0
address wrong_length = 0
address no_record = 0
address off_register = 0
address too_coarse = 0
address read_only = 0
address output_full = 0

-- what a call says: its number, and the address that "must come out with the refusal"
pub record Answer : Type 0 where
  pub number : ℕ
  pub address : ℕ

abbrev pub saying : ℕ → ℕ → Answer
saying n a = record { number = n; address = a }

-- "done"
abbrev pub well : Answer
well = saying 0 0

abbrev pub answer_for : Why → Answer
answer_for why = saying (number why) (address why)

-- the refusal of an address that names no cell
abbrev pub outside : Kind → ℕ → Why
outside k a = upon k (off_cpu a) (off_vdp a) off_register (off_grom a)
