-- 01, "Instructions": status, sums, compares and shifts as functions of numbers, once over the width: h is half of the numbers of that width.
use Rattle.std.specs.Prelude.{Bool, true, false, ℕ, ◌+◌, ◌-◌, ◌*◌, ◌/◌, ◌%◌, ◌^◌, ltb, leb, eqb}
use Rattle.std.specs.Int.Bits.{bit_and, bit_or, bit_xor}
use Rattle.std.specs.Int.Count.{ones}
use Rattle.rules.specs.Machine.{pick, ◌also◌, bit}
use Rattle.rules.specs.Operands.{Width}
use Rattle.rules.specs.Opcodes.{Test, high, greater, carry, overflow, One, abs, neg, inv, clr, cz, inc, dec, inct, dect}
use Rattle.rules.specs.Opcodes.{Two, add, sub, and, or, xor, st, ch, che, cgt, cge, ceq, clog, sra, sll, srl, src}

abbrev pub half : Width → ℕ
half w = pick w 0x8000 0x80

-- how many numbers there are
abbrev pub span : ℕ → ℕ
span h = h * 2

-- ---- signs

-- the sign bit
abbrev pub negative : ℕ → ℕ → Bool
negative h x = leb h x

-- a number's place in the order of signed numbers
abbrev pub rank : ℕ → ℕ → ℕ
rank h x = (x + h) % span h

-- the first is above the second, signed
unfoldable pub above : ℕ → ℕ → ℕ → Bool
above h a b = ltb (rank h b) (rank h a)

-- the two's complement
unfoldable pub complement : ℕ → ℕ → ℕ
complement h x = (span h - x) % span h

-- "Byte values count as sign-extended unless said."
unfoldable pub extended : Width → ℕ → ℕ
extended w x = pick w x (pick (negative 0x80 x) (x + 0xFF00) x)

-- ---- "Status: >80 logical high (not 0), >40 greater (above 0, signed), >20 condition, >10 carry, >08 overflow. The low three bits are written 0 (*own rule*),
-- except by DIV and where only the condition bit changes." 02 adds >04 to a sum's status.

abbrev pub flag : Bool → ℕ → ℕ
flag c n = pick c n 0

unfoldable pub status_byte : Bool → Bool → Bool → Bool → Bool → ℕ
status_byte hi gt cond cy ov = flag hi 0x80 + flag gt 0x40 + flag cond 0x20 + flag cy 0x10 + flag ov 0x08

-- one number against another: high, greater, condition (equal)
unfoldable pub compared : ℕ → ℕ → ℕ → Bool → Bool → ℕ
compared h a b cy ov = status_byte (ltb b a) (above h a b) (eqb a b) cy ov

-- the condition bit of a status byte, and the byte with another one: "change only the condition bit"
abbrev pub condition_of : ℕ → Bool
condition_of s = bit 5 s

unfoldable pub with_condition : Bool → ℕ → ℕ
with_condition c s = s / 64 * 64 + flag c 0x20 + s % 32

-- the four bit tests: H, GT, CARRY, OVF
unfoldable pub tested : Test → ℕ → Bool
tested high s = bit 7 s
tested greater s = bit 6 s
tested carry s = bit 4 s
tested overflow s = bit 3 s

-- ---- sums

unfoldable pub sum : ℕ → ℕ → ℕ → ℕ
sum h a b = (a + b) % span h

unfoldable pub carries : ℕ → ℕ → ℕ → Bool
carries h a b = leb (span h) (a + b)

abbrev pub differ : Bool → Bool → Bool
differ true b = pick b false true
differ false b = b

-- like signs, and another in the sum
unfoldable pub overflows : ℕ → ℕ → ℕ → Bool
overflows h a b = differ (negative h a) (negative h (sum h a b)) also differ (negative h b) (negative h (sum h a b))

-- 02, item 6: "State parity by the count of ones in the result byte"
unfoldable pub odd_ones : ℕ → Bool
odd_ones b = eqb (ones b % 2) 1

-- the byte that was tested last: the result, or "For word adds the listing tests the width flag, which is 1, just before"
abbrev pub tested_last : Width → ℕ → ℕ
tested_last w r = pick w 1 r

-- "The processor's byte add also sets >04 when the result has an odd number of one bits, and the listing stores it."
abbrev pub parity : Width → ℕ → Bool
parity w r = odd_ones (tested_last w r)

-- "Mend this for ADD, SUB and the four increments"
unfoldable pub sum_status : Width → ℕ → ℕ → ℕ
sum_status w a b =
    compared (half w) (sum (half w) a b) 0 (carries (half w) a b) (overflows (half w) a b) + flag (parity w (sum (half w) a b)) 0x04

-- ---- "Shifts: low 4 bits of the count, 0 meaning 16." They work on 16 bits, of which a byte's result is the low half.

unfoldable pub shift_count : ℕ → ℕ
shift_count b = pick (eqb (b % 16) 0) 16 (b % 16)

-- SRA: the sign bit comes in from the left
unfoldable pub arithmetic : ℕ → ℕ → ℕ
arithmetic x n = pick (negative 0x8000 x) (65535 - (65535 - x) / 2 ^ n) (x / 2 ^ n)

-- SLL
unfoldable pub leftward : ℕ → ℕ → ℕ
leftward x n = x * 2 ^ n % 65536

-- SRL
unfoldable pub rightward : ℕ → ℕ → ℕ
rightward x n = x / 2 ^ n

-- SRC: what leaves on the right comes in from the left
unfoldable pub circular : ℕ → ℕ → ℕ
circular x n = x / 2 ^ n + x % 2 ^ n * 2 ^ (16 - n)

-- "SRC repeats the byte in it", in a byte's upper half
unfoldable pub repeated : Width → ℕ → ℕ
repeated w x = pick w x (x * 256 + x)

-- ---- those of one number

-- ABS
unfoldable pub absolute : ℕ → ℕ → ℕ
absolute h x = pick (negative h x) (complement h x) x

-- INV
unfoldable pub inverse : ℕ → ℕ → ℕ
inverse h x = span h - 1 - x

-- ---- what an instruction stores, by its operands' values

pub data Effect : Type 0 where
  -- "status stored, then result"
  both : ℕ → ℕ → Effect
  -- "ABS, NEG, INV, CLR, ST, EX, shifts: no status."
  only : ℕ → Effect
  -- status and no result
  flags : ℕ → Effect
  -- "change only the condition bit"
  condition : Bool → Effect

-- "ADD group: status stored, then result."
abbrev pub added : Width → ℕ → ℕ → Effect
added w a b = both (sum_status w a b) (sum (half w) a b)

-- "AND, OR, XOR do the same with carry and overflow 0 (*own rule*)."
abbrev pub logical : ℕ → ℕ → Effect
logical h r = both (compared h r 0 false false) r

unfoldable pub one_effect : One → Width → ℕ → Effect
one_effect abs w v = only (absolute (half w) v)
one_effect neg w v = only (complement (half w) v)
one_effect inv w v = only (inverse (half w) v)
one_effect clr w v = only 0
-- "CZ (value against 0) .. high, greater, condition (equal), rest 0 (*own rule*)"
one_effect cz w v = flags (compared (half w) v 0 false false)
-- "INC to DECT add 1, -1, 2, -2."
one_effect inc w v = added w v 1
one_effect dec w v = added w v (complement (half w) 1)
one_effect inct w v = added w v 2
one_effect dect w v = added w v (complement (half w) 2)

-- a is the destination's value, b the source's
unfoldable pub two_effect : Two → Width → ℕ → ℕ → Effect
two_effect add w a b = added w a b
-- "SUB adds the two's complement: taking 0 gives no carry."
two_effect sub w a b = added w a (complement (half w) b)
two_effect and w a b = logical (half w) (bit_and a b)
two_effect or w a b = logical (half w) (bit_or a b)
two_effect xor w a b = logical (half w) (bit_xor a b)
two_effect st w a b = only b
-- "CH, CHE (unsigned), CGT, CGE (signed), CLOG (AND is zero)"
two_effect ch w a b = condition (ltb b a)
two_effect che w a b = condition (leb b a)
two_effect cgt w a b = condition (above (half w) a b)
two_effect cge w a b = condition (leb (rank (half w) b) (rank (half w) a))
-- "CEQ (destination against source) .. high, greater, condition (equal), rest 0 (*own rule*)"
two_effect ceq w a b = flags (compared (half w) a b false false)
two_effect clog w a b = condition (eqb (bit_and a b) 0)
two_effect sra w a b = only (arithmetic (extended w a) (shift_count b))
two_effect sll w a b = only (leftward (extended w a) (shift_count b))
-- "SRL clears a byte's upper half first"
two_effect srl w a b = only (rightward a (shift_count b))
two_effect src w a b = only (circular (repeated w a) (shift_count b))

-- ---- the random number

-- "the seed times 28,645 plus 31,417, keeping 16 bits"
unfoldable pub next_seed : ℕ → ℕ
next_seed s = (s * 28645 + 31417) % 65536

-- "the byte-swapped seed modulo (next byte plus 1)"
unfoldable pub random_of : ℕ → ℕ → ℕ
random_of s limit = (s % 256 * 256 + s / 256) % (limit + 1)
