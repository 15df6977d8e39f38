-- The list of opcodes as a value, the test that it is what the rules say, and what an arm of `class_of` has from both.
use Rattle.std.proofs.Common.{◌≡◌, refl, ap, ⊎_elim, Bool, true, false, List, [], ◌∷◌, ℕ, zero, suc, ◌+◌, ◌%◌, ◌<◌, ◌≤◌}
use Rattle.std.proofs.Common.{eq-or-lt_of_le, le_of_suc-le-suc, not-suc-le-zero, arith, ltb, ltb-true, lt-ltb, le-ltb}
use Rattle.rules.specs.Machine.{pick, ◌also◌, bit}
use Rattle.rules.specs.Answers.{no_such, needs_host, ended}
use Rattle.rules.specs.Opcodes.{Class, stops, does, starts, gram_class, move_class, class_of}
use Rattle.rules.specs.Opcodes.{rtn, rtnc, rand, back, long, call, all, fmt, test, move, branch, one, fetch, case, push, two, mul, div, ex, coinc}
use Rattle.rules.specs.Opcodes.{high, greater, carry, overflow, abs, neg, inv, clr, cz, inc, dec, inct, dect}
use Rattle.rules.specs.Opcodes.{add, sub, and, or, xor, st, ch, che, cgt, cge, ceq, clog, sra, sll, srl, src}

-- the runs of `class_of` in its order, each by its last opcode; bits of the opcode say that the source is immediate and that the operands are words
abbrev pub runs : Bool → Bool → ℕ → List (ℕ × Class)
runs imm w op =
    (0x00, does rtn) ∷ (0x01, does rtnc) ∷ (0x02, does rand) ∷ (0x03, stops needs_host) ∷ (0x04, does back) ∷ (0x05, does long) ∷ (0x06, does call)
    ∷ (0x07, does all) ∷ (0x08, does fmt) ∷ (0x09, does (test high)) ∷ (0x0A, does (test greater)) ∷ (0x0B, stops ended) ∷ (0x0C, does (test carry))
    ∷ (0x0D, does (test overflow)) ∷ (0x0E, stops no_such) ∷ (0x0F, stops needs_host)
    ∷ (0x1F, stops no_such)
    ∷ (0x25, does (move (op % 32))) ∷ (0x2F, stops no_such)
    ∷ (0x35, does (move (op % 32))) ∷ (0x37, stops no_such) ∷ (0x3D, does (move (op % 32))) ∷ (0x3F, stops no_such)
    ∷ (0x5F, does (branch false (op % 32)))
    ∷ (0x7F, does (branch true (op % 32)))
    ∷ (0x81, does (one abs w)) ∷ (0x83, does (one neg w)) ∷ (0x85, does (one inv w)) ∷ (0x87, does (one clr w)) ∷ (0x89, does (fetch w))
    ∷ (0x8B, does (case w)) ∷ (0x8D, does (push w)) ∷ (0x8F, does (one cz w))
    ∷ (0x91, does (one inc w)) ∷ (0x93, does (one dec w)) ∷ (0x95, does (one inct w)) ∷ (0x97, does (one dect w)) ∷ (0x9F, stops no_such)
    ∷ (0xA3, does (two add imm w)) ∷ (0xA7, does (two sub imm w)) ∷ (0xAB, does (mul imm w)) ∷ (0xAF, does (div imm w))
    ∷ (0xB3, does (two and imm w)) ∷ (0xB7, does (two or imm w)) ∷ (0xBB, does (two xor imm w)) ∷ (0xBF, does (two st imm w))
    ∷ (0xC1, does (ex w)) ∷ (0xC3, stops no_such) ∷ (0xC7, does (two ch imm w)) ∷ (0xCB, does (two che imm w)) ∷ (0xCF, does (two cgt imm w))
    ∷ (0xD3, does (two cge imm w)) ∷ (0xD7, does (two ceq imm w)) ∷ (0xDB, does (two clog imm w)) ∷ (0xDF, does (two sra imm w))
    ∷ (0xE3, does (two sll imm w)) ∷ (0xE7, does (two srl imm w)) ∷ (0xEB, does (two src imm w)) ∷ (0xEC, stops no_such) ∷ (0xED, does coinc)
    ∷ (0xF3, stops no_such) ∷ (0xF7, starts imm w) ∷ (0xFF, stops no_such) ∷ []

-- an opcode belongs to the first run that does not end below it
abbrev pub found : ℕ → List (ℕ × Class) → Class
found op [] = stops no_such
found op (r ∷ rs) = pick (ltb r.0 op) (found op rs) r.1

-- where that run ends
abbrev pub end : ℕ → List (ℕ × Class) → ℕ
end op [] = op
end op (r ∷ rs) = pick (ltb r.0 op) (end op rs) r.0

-- what the list says of an opcode
unfoldable said : ℕ → Class
said op = found op (runs (bit 1 op) (bit 0 op) op)

-- the classes that f gives to the opcodes below n, from the last down
abbrev below : (ℕ → Class) → ℕ → List Class
below f zero = []
below f (suc n) = f n ∷ below f n

-- the test: of all 256 opcodes the list says what the rules say
every : below said 256 ≡ below class_of 256
unfolding said class_of gram_class move_class ◌also◌ bit
every = refl

abbrev first : List Class → Class
first [] = stops no_such
first (c ∷ cs) = c

abbrev others : List Class → List Class
others [] = []
others (c ∷ cs) = cs

each : (f g : ℕ → Class) (n : ℕ) → below f n ≡ below g n → (op : ℕ) → op < n → f op ≡ g op
each f g zero e op h = absurd (not-suc-le-zero h)
each f g (suc n) e op h =
    ⊎_elim (λ (is : op ≡ n). rw is (ap first e)) (λ (less : op < n). each f g n (ap others e) op less) (eq-or-lt_of_le (le_of_suc-le-suc h))

-- opcodes of one run are found together
module _ (k op : ℕ) (low : k ≤ op) where
  beside : (r : ℕ × Class) (b : Bool) (x y : Class) (n : ℕ) → ltb r.0 k ≡ b → op ≤ pick b n r.0 → (op ≤ n → x ≡ y)
      → pick (ltb r.0 op) x r.1 ≡ pick b y r.1
  beside r true x y n e h on = rw (lt-ltb r.0 op (omega (arith, ltb-true r.0 k e))) (on h)
  beside r false x y n e h on = rw (le-ltb r.0 op h)

  together : (rs : List (ℕ × Class)) → op ≤ end k rs → found op rs ≡ found k rs
  together [] h = refl
  together (r ∷ rs) h = beside r (ltb r.0 k) (found op rs) (found k rs) (end k rs) refl h (together rs)

-- an opcode of the run that begins at k
abbrev pub Within : ℕ → ℕ → Type 0
Within k op = (k ≤ op) × (op ≤ end k (runs false false 0)) × (op < 256)

-- so it has the class of that run, with its own bits; where the code has these by name, they are given
pub listed : (k op : ℕ) → Within k op → found k (runs (bit 1 op) (bit 0 op) op) ≡ class_of op
unfolding said
listed k op h = rw (← together k op h.0 (runs (bit 1 op) (bit 0 op) op) h.1) (each said class_of 256 every op h.2)

pub wide : (k op : ℕ) (w : Bool) → (w ≡ bit 0 op) × Within k op → found k (runs (bit 1 op) w op) ≡ class_of op
wide k op w h = rw h.0 (listed k op h.1)

pub both : (k op : ℕ) (imm w : Bool) → (imm ≡ bit 1 op) × (w ≡ bit 0 op) × Within k op → found k (runs imm w op) ≡ class_of op
both k op imm w h = rw (h.0, h.1) (listed k op h.2)

-- what a match knows in its last arms, beside A: that the n keys from i on are not met
abbrev pub Skips : Type 0 → ℕ → ℕ → ℕ → Type 0
Skips A op i zero = A
Skips A op i (suc n) = Skips A op i n × (op ≡ i + n → ⊥)

pub past : (A : Type 0) (op i n : ℕ) → i ≤ op → Skips A op i n → i + n ≤ op
past A op i zero low h = omega arith
past A op i (suc n) low h =
    let far : i + n ≤ op = past A op i n low h.0 in
    let ne : op ≡ i + n → ⊥ = h.1 in
    omega arith
