-- 01, "The machine on the bench": its parts, their sizes, and how the program address counts.
use Rattle.std.specs.Prelude.{Bool, true, false, List, ℕ, ◌+◌, ◌*◌, ◌/◌, ◌%◌, ◌^◌, eqb, length, set}

-- one of two, by a test
abbrev pub pick : {A : Type 0} → Bool → A → A → A
pick true a b = a
pick false a b = b

-- both tests hold
infixr 3 ◌also◌
unfoldable pub ◌also◌ : Bool → Bool → Bool
◌also◌ true b = b
◌also◌ false b = false

-- bit n of a number, counted from the right
unfoldable pub bit : ℕ → ℕ → Bool
bit n x = eqb (x / 2 ^ n % 2) 1

-- ---- the parts

-- "CPU RAM ("pad", >8300 up)", "VDP RAM", "VDP registers"; and 02, item 9, "count the image among the memories": "a fourth memory"
pub data Kind : Type 0 where
  cpu vdp register grom : Kind

-- one of four, by the kind
abbrev pub upon : {A : Type 0} → Kind → A → A → A → A → A
upon cpu x y z t = x
upon vdp x y z t = y
upon register x y z t = z
upon grom x y z t = t

-- "1 to 8 groups of 8,192 bytes, from address 0"
abbrev pub group : ℕ
group = 8192

-- "256 bytes", "16,384 bytes", "8 bytes"; of an image the most
abbrev pub size : Kind → ℕ
size k = upon k 256 16384 8 (8 * group)

-- "a program may reach offsets >00 to >DF": how many cells of each kind an operand may name. It names none of GROM.
abbrev pub reach : Kind → ℕ
reach k = upon k 0xE0 16384 8 0

-- what of GROM there is: how many bytes, and 02, item 9, the "groups named writable by the caller": a byte, bit g for group g
pub record Area : Type 0 where
  pub bytes : ℕ
  pub groups : ℕ

abbrev pub area_of : ℕ → ℕ → Area
area_of n w = record { bytes = n; groups = w }

-- how many cells of each kind a rule may reach
abbrev pub extent : Area → Kind → ℕ
extent z k = upon k 0xE0 16384 8 z.bytes

-- a cell that may be stored into: of GROM, one in a group named writable
abbrev pub writable : Area → Kind → ℕ → Bool
writable z k a = upon k true true true (bit (a / group) z.groups)

-- "GROM image" and its writable groups, the other memories, and "Journal | 0 to 1,048,576 words of 32 bits, and a used count"
pub record Mem : Type 0 where
  pub image : List ℕ
  pub groups : ℕ
  pub pad : List ℕ
  pub vram : List ℕ
  pub regs : List ℕ
  -- the words from the oldest kept one on, round to the word before it: the first `used` of them are used
  pub journal : List ℕ
  pub used : ℕ
  -- how many of the used words are of steps before the one that is being made; between two calls, all
  pub older : ℕ
  -- 02, item 5: "the place of the oldest kept word", among the caller's words
  pub place : ℕ
  -- "On request": whether whole oldest steps are dropped when a step needs room
  pub ring : Bool

abbrev pub mem : List ℕ → ℕ → List ℕ → List ℕ → List ℕ → List ℕ → ℕ → ℕ → ℕ → Bool → Mem
mem i w p v r j u o a c = record { image = i; groups = w; pad = p; vram = v; regs = r; journal = j; used = u; older = o; place = a; ring = c }

abbrev pub area : Mem → Area
area m = area_of (length m.image) m.groups

-- "Program address (pc) | 16 bits". 02, item 10: "The source flag stands beside pc": whether a sound list is in VDP RAM, else it is in GROM
pub record State : Type 0 where
  pub pc : ℕ
  pub source : Bool
  pub mem : Mem

abbrev pub state : ℕ → Bool → Mem → State
state pc v m = record { pc = pc; source = v; mem = m }

-- "and is bit 16 of the mark word; demands 1 to 3 count it as part of the address": the flag above pc
abbrev pub flagged : ℕ → Bool → ℕ
flagged pc v = pick v (65536 + pc) pc

abbrev pub address : State → ℕ
address s = flagged s.pc s.source

-- the cells of one kind
abbrev pub cells : Kind → Mem → List ℕ
cells k m = upon k m.pad m.vram m.regs m.image

-- the same machine with a byte in a cell
abbrev pub put : Kind → ℕ → ℕ → Mem → Mem
put k a b m =
    mem (upon k m.image m.image m.image (set m.image a b)) m.groups
    (upon k (set m.pad a b) m.pad m.pad m.pad) (upon k m.vram (set m.vram a b) m.vram m.vram)
    (upon k m.regs m.regs (set m.regs a b) m.regs) m.journal m.used
    m.older m.place m.ring

-- the same machine with these words, so many of them used
abbrev pub beside : List ℕ → ℕ → Mem → Mem
beside j u m = mem m.image m.groups m.pad m.vram m.regs j u m.older m.place m.ring

-- the journal of one machine beside the cells of another
abbrev pub over : Mem → Mem → Mem
over b m = mem m.image m.groups m.pad m.vram m.regs b.journal b.used b.older b.place b.ring

-- no step is being made
abbrev pub at_rest : Mem → Mem
at_rest m = mem m.image m.groups m.pad m.vram m.regs m.journal m.used m.used m.place m.ring

-- ---- how they count

-- "Reading GROM at pc moves pc on: the low 13 bits count and wrap, the top 3 stay."
abbrev pub onward : ℕ → ℕ
onward pc = pc / group * group + (pc % group + 1) % group

-- "Words are high byte first."
abbrev pub joined : ℕ → ℕ → ℕ
joined high low = high * 256 + low

abbrev pub high_byte : ℕ → ℕ
high_byte w = w / 256

abbrev pub low_byte : ℕ → ℕ
low_byte w = w % 256

-- ---- "Pad cells"

-- ">72 data stack pointer"
abbrev pub data_pointer : ℕ
data_pointer = 0x72

-- ">73 subroutine stack pointer"
abbrev pub sub_pointer : ℕ
sub_pointer = 0x73

-- ">78 random number"
abbrev pub random_number : ℕ
random_number = 0x78

-- ">7C status"
abbrev pub status : ℕ
status = 0x7C

-- ">7D character buffer"
abbrev pub buffer : ℕ
buffer = 0x7D

-- ">7E row (YPT)"
abbrev pub ypt : ℕ
ypt = 0x7E

-- ">7F column (XPT)"
abbrev pub xpt : ℕ
xpt = 0x7F

-- ">C0 and >C1 random seed"
abbrev pub seed_cell : ℕ
seed_cell = 0xC0

-- 02, item 10: "the pad word at the destination goes to >CC": the address of a sound list
abbrev pub list_cell : ℕ
list_cell = 0xCC

-- "then 1 to >CE": its count of ticks
abbrev pub count_cell : ℕ
count_cell = 0xCE

-- ">D4 copy of VDP register 1"
abbrev pub register_copy : ℕ
register_copy = 0xD4
