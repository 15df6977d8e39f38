-- The records of the steps that are kept: the oldest ends at the next mark, so what is dropped is whole steps, and as many stay as have room.
use mathlib.Core.Path.{◌≡◌, refl, ◌∙◌, ap, ap₂, sym, subst}
use mathlib.Core.Bool.{Bool, true, false}
use mathlib.Core.List.{List, [], ◌∷◌, ◌++◌, map, append-nil, append_assoc}
use Prim.Native.Nat.{ℕ, zero, suc, ◌+◌, ◌-◌, ◌*◌, ◌/◌, ◌^◌, ◌≤◌, ◌<◌}
use native.Mathlib.Nat.{not-suc-le-zero}
use native.Mathlib.Omega.{arith}
use lib.ListN.{length, drop}
use lib.Seq.{drop-drop, drop-append_seam}
use borrow.Author.Tests.{ne_eqb, le-leb, lt-leb}
use Rattle.rules.specs.Machine.{Kind, cpu, vdp, register, grom, Mem, area, State, address}
use Rattle.rules.specs.Journal.{kind_number, word, mark_word, Store, word_of, marks, until_mark, oldest}
use Rattle.rules.specs.Calls.{Way, step_stores}
use Rattle.rules.specs.Demands.{Bytes, Drops, enough, another, forward, record_of, records, fitting}
use Rattle.rules.proofs.Stores.{Made, none, one}
use Rattle.rules.proofs.Forget.{drops_room}
use Rattle.rules.proofs.Undo.{stored_small, old_byte_lem, bytes_after}

-- ---- which words are marks

marks_mark : (a : ℕ) → a < 131072 → marks (mark_word a) ≡ true
unfolding marks mark_word
marks_mark a h =
    let top : (3 * 2 ^ 29 + a) / 2 ^ 29 ≡ 3 = omega arith in
    rw top

not_three : (k : Kind) → kind_number k ≡ 3 → ⊥
not_three cpu e = omega arith
not_three vdp e = omega arith
not_three register e = omega arith
not_three grom e = omega arith

marks_word : (k : Kind) (a b : ℕ) → a < 65536 → b < 256 → marks (word k a b) ≡ false
unfolding marks word
marks_word k a b h l =
    let top : (kind_number k * 2 ^ 29 + a * 256 + b) / 2 ^ 29 ≡ kind_number k = omega arith in
    rw top (ne_eqb (kind_number k) 3 (not_three k))

abbrev Unmarked : List ℕ → Type 0
Unmarked [] = Unit {0}
Unmarked (w ∷ ws) = (marks w ≡ false) × Unmarked ws

made_unmarked : {m m' : Mem} {ss : List Store} → Bytes m → Made m ss m' → Unmarked (map word_of ss)
made_unmarked b none = tt
made_unmarked {m} b (one {s} h t) = (
  marks_word s.kind s.at s.old (stored_small (area m) s.kind s.at b.1 h.inside h.allowed) (old_byte_lem s m h b),
  made_unmarked (bytes_after (one h none) b) t,
)

-- a record: a mark, and then no mark
abbrev pub Marked : List ℕ → Type 0
Marked [] = ⊥
Marked (w ∷ ws) = (marks w ≡ true) × Unmarked ws

pub made_marked : {a : ℕ} {m m' : Mem} {ss : List Store} → a < 131072 → Bytes m → Made m ss m' → Marked (mark_word a ∷ map word_of ss)
made_marked {a} l b h = (marks_mark a l, made_unmarked b h)

-- ---- the oldest of them

-- nothing, or a mark first
abbrev Begins : List ℕ → Type 0
Begins [] = Unit {0}
Begins (w ∷ ws) = marks w ≡ true

until_next : (ws vs : List ℕ) → Unmarked ws → Begins vs → until_mark (ws ++ vs) ≡ length ws
until_next [] [] h k = refl
until_next [] (v ∷ vs) h k = rw k
until_next (w ∷ ws) vs h k = rw h.0 (ap suc (until_next ws vs h.1 k))

-- a record, and then others
record First (ws vs : List ℕ) : Type 0 where
  top : ℕ
  more : List ℕ
  is : ws ≡ (top ∷ more) ++ vs
  marked : Marked (top ∷ more)

oldest_dropped : {ws vs : List ℕ} → First ws vs → Begins vs → drop (oldest ws) ws ≡ vs
oldest_dropped {ws} {vs} f b =
    ap₂ (λ (n : ℕ) (l : List ℕ). drop n l) (ap oldest f.is ∙ ap suc (until_next f.more vs f.marked.1 b)) f.is ∙ drop-append_seam (f.top ∷ f.more) vs

-- ---- of the newest k steps

module _ (s : State) where
  -- each of them has such a record
  abbrev pub Recorded : List Way → Type 0
  Recorded [] = Unit {0}
  Recorded (w ∷ ws) = Recorded ws × Marked (record_of w (forward ws s))

  first : (k : ℕ) (ws : List Way) → Recorded ws → suc k ≤ length ws → First (records (suc k) ws s) (records k ws s)
  first k [] h l = absurd (not-suc-le-zero l)
  first zero (w ∷ ws) h l =
      record { top = mark_word (address (forward ws s)); more = map word_of (step_stores w (forward ws s)); is = sym (append-nil _); marked = h.1 }
  first (suc k) (w ∷ ws) h l =
      let f : First (records (suc k) ws s) (records k ws s) = first k ws h.0 (omega arith) in
      record {
        top = f.top;
        more = f.more;
        is = ap (λ (x : List ℕ). x ++ record_of w (forward ws s)) f.is ∙ append_assoc (f.top ∷ f.more) (records k ws s) (record_of w (forward ws s));
        marked = f.marked;
      }

  begins : (k : ℕ) (ws : List Way) → Recorded ws → k ≤ length ws → Begins (records k ws s)
  begins zero ws h l = tt
  begins (suc k) ws h l =
      let f : First (records (suc k) ws s) (records k ws s) = first k ws h l in
      subst Begins (sym f.is) f.marked.0

  -- all of them have room, or one less is tried
  pub fitting_all : (k : ℕ) (ws : List Way) (c : ℕ) → length (records k ws s) ≤ c → fitting c k ws s ≡ k
  fitting_all zero ws c h = refl
  fitting_all (suc k) ws c h = rw (le-leb (length (records (suc k) ws s)) c h)

  fitting_less : (k : ℕ) (ws : List Way) (c : ℕ) → c < length (records (suc k) ws s) → fitting c (suc k) ws s ≡ fitting c k ws s
  fitting_less k ws c h = rw (lt-leb (length (records (suc k) ws s)) c h)

  -- what is dropped is whole steps, and as many stay as have room
  pub drops_kept : {b : Bool} {c t : ℕ} {xs : List ℕ} {d : ℕ} (k : ℕ) (ws : List Way) → Recorded ws → k ≤ length ws → xs ≡ records k ws s → Drops b c t xs d
      → (drop d xs ≡ records (fitting (c - t) k ws s) ws s) × (fitting (c - t) k ws s ≤ k)
  drops_kept {c = c} {t = t} k ws h l e (enough {ws = xs} r) =
      let z : fitting (c - t) k ws s ≡ k = fitting_all k ws (c - t) (omega (arith, ap length e)) in
      (e ∙ ap (λ (x : ℕ). records x ws s) (sym z), omega (arith, z))
  drops_kept {c = c} {t = t} zero ws h l e (another {ws = xs} {d} q r f) = absurd (omega (arith, ap length e, (drops_room f).1))
  drops_kept {c = c} {t = t} (suc k) ws h l e (another {ws = xs} {d} q r f) =
      let y : drop (oldest xs) xs ≡ records k ws s = ap (λ (x : List ℕ). drop (oldest x) x) e ∙ oldest_dropped (first k ws h l) (begins k ws h (omega arith)) in
      let i : (drop d (drop (oldest xs) xs) ≡ records (fitting (c - t) k ws s) ws s) × _ = drops_kept k ws h (omega arith) y f in
      let z : fitting (c - t) (suc k) ws s ≡ fitting (c - t) k ws s = fitting_less k ws (c - t) (omega (arith, ap length e, (drops_room f).1)) in
      (sym (drop-drop d (oldest xs) xs) ∙ i.0 ∙ ap (λ (x : ℕ). records x ws s) (sym z), omega (arith, z, i.1))
