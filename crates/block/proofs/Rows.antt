-- Stores to VDP RAM in a row: what a loop of them makes, and that it is what the rules make one by one.
use Rattle.std.proofs.Common.{◌≡◌, refl, ap, sym, ◌∙◌, List, [], ◌∷◌, ℕ, zero, suc, ◌+◌, ◌*◌, ◌^◌, ◌-◌, ◌<◌, ◌≤◌}
use Rattle.std.proofs.Common.{length, get_or, set, length-set, mod-eq_of_lt, lt-ltb, arith}
use Rattle.std.specs.Prelude.{None}
use Rattle.rules.specs.Machine.{cpu, vdp, grom, mem}
use Rattle.rules.specs.Journal.{word}
use Rattle.rules.specs.Rules.{Deed, poke, exec, perform, spare}
use Rattle.rules.specs.Reads.{reads, act_reads, marked}
use Rattle.rules.specs.Operands.{Cell, cell}
use Rattle.rules.specs.Instructions.{source_byte, deliver, move_byte, move_bytes, fill}
use Rattle.rules.proofs.Loops.{Repeats}
use Rattle.ring.specs.Meaning.{rings, seen}
use Rattle.machine.specs.declared.state.Machine.{Machine}
use Rattle.machine.specs.declared.memory.Memory.{Memory}
use Rattle.machine.specs.declared.memory.Memory.TheVariants.{Cpu, Vdp, Register, Grom}
use Rattle.machine.specs.Meaning.{kind_of, State, state, rest_of, End, done, failed, run}
use Rattle.machine.proofs.Laws.{run_bind, run_give, andthen, andthen_done, andthen_failed}
use Rattle.block.specs.Meaning.{end_of, Screen, screen, screen_in, put, stored, outside, inside, always, clear, clear_grom, IsSure}
use Rattle.block.specs.declared.ends.End as ends

-- one turn, and the others
next : (n k t : ℕ) (f : ℕ → Screen → ℕ) (x : Screen) → stored (suc n) k f t x ≡ stored n (suc k) f t (put (t + k) (f k x) x)
unfolding stored
next n k t f x = refl

-- a turn of a loop of stores, k of n having been made
pub stored_more : (n k t u : ℕ) (f : ℕ → Screen → ℕ) (v j : List ℕ) → k < n → f k (screen v j (u + k)) < 256
    → stored (n - k) k f t (screen v j (u + k))
    ≡ stored (n - (k + 1)) (k + 1) f t
    (screen (set v (t + k) (f k (screen v j (u + k)))) (set j (u + k) (2 ^ 29 + (t + k) * 256 + get_or v (t + k) 0)) (u + (k + 1)))
unfolding word
stored_more n k t u f v j h l =
    let e : n - k ≡ suc (n - (k + 1)) = omega arith in
    let on : k + 1 ≡ suc k = omega arith in
    let used : u + (k + 1) ≡ suc (u + k) = omega arith in
    rw (e, used, on, next _ _ _ _ _, mod-eq_of_lt l) refl

-- ---- what such a loop does, by the rules

-- a machine with this VDP RAM and this journal
abbrev pub on : Screen → State → State
on x s =
    record s {
      rest = record s.rest {
        mem = mem s.rest.mem.image s.rest.mem.groups s.rest.mem.pad x.vram s.rest.mem.regs x.journal x.used s.rest.mem.older s.rest.mem.place s.rest.mem.ring;
      };
    }

poked : (a b : ℕ) (x : Screen) (s : State) → a < 16384 → x.used < length x.journal → run (poke vdp a b) (on x s) ≡ done tt (on (put a b x) s)
unfolding run exec perform reads act_reads marked spare
poked a b x s h l = rw (lt-ltb a _ h, lt-ltb x.used _ l, lt-ltb x.used _ l) refl

-- a rule that repeats another: each turn stores a byte
module _ {f : ℕ → ℕ → Deed} {r : ℕ → Deed} (l : Repeats f r) (g : ℕ → Screen → ℕ) (t : ℕ) (s : State) where
  pub turns_made : (n k : ℕ) (x : Screen)
      → ((i : ℕ) (y : Screen) → i < k + n → y.used < length y.journal → run (r i) (on y s) ≡ done tt (on (put (t + i) (g i y) y) s))
      → n ≤ length x.journal - x.used → run (f n k) (on x s) ≡ done tt (on (stored n k g t x) s)
  unfolding stored
  turns_made zero k x q h = rw (l.none _) (run_give _ _)
  turns_made (suc n) k x q h =
      rw (l.more _ _, run_bind _ _ _, q k x (omega arith) (omega arith), andthen_done _ _ _)
      (turns_made n (suc k) (put (t + k) (g k x) x) (λ i y b. q i y (omega arith)) (rw (length-set _ _ _) (omega arith)))

-- some turns are made: the others are left
module _ {f : ℕ → ℕ → Deed} {r : ℕ → Deed} (l : Repeats f r) where
  split : (p n k : ℕ) (s : State) → run (f (p + n) k) s ≡ andthen (run (f p k) s) (λ _. f n (k + p))
  split zero n k s =
      let none : 0 + n ≡ n = omega arith in
      let here : k + 0 ≡ k = omega arith in
      rw (l.none _, run_give _ _, andthen_done _ _ _, none, here) refl
  split (suc p) n k s =
      let more : suc p + n ≡ suc (p + n) = omega arith in
      let on : k + suc p ≡ suc k + p = omega arith in
      rw (more, on, l.more (p + n) k, l.more p k, run_bind _ _ _, run_bind _ _ _) (go (run (r k) s) (split p n (suc k)))
    where
      go : (e : End (Unit {0})) → ((t : State) → run (f (p + n) (suc k)) t ≡ andthen (run (f p (suc k)) t) (λ _. f n (suc k + p)))
          → andthen e (λ _. f (p + n) (suc k)) ≡ andthen (andthen e (λ _. f p (suc k))) (λ _. f n (suc k + p))
      go (done v t) h = rw (andthen_done _ _ _, andthen_done _ _ _) (h t)
      go (failed m x) h = rw (andthen_failed _ _ _, andthen_failed _ _ _, andthen_failed _ _ _) refl

  pub turns_left : (p n : ℕ) (s t : State) → p ≤ n → run (f p 0) s ≡ done tt t → run (f n 0) s ≡ run (f (n - p) p) t
  turns_left p n s t h e =
      let whole : n ≡ p + (n - p) = omega arith in
      let here : 0 + p ≡ p = omega arith in
      ap (λ (q : ℕ). run (f q 0) s) whole ∙ split p (n - p) 0 s ∙ rw (e, andthen_done _ _ _, here) refl

-- ---- MOVE

pub moves : (c d : Cell) → Repeats (λ n k. move_bytes n k c d) (λ k. move_byte c d k)
unfolding move_bytes
moves c d = record { none = λ k. refl; more = λ n k. refl }

-- so many bytes can be read there, with nothing marked
abbrev Reads : Cell → (ℕ → Screen → ℕ) → ℕ → State → Type 0
Reads c f n s = (i : ℕ) (x : Screen) → i < n → run (source_byte c i) (on x s) ≡ done (f i x) (on x s)

moved : (c : Cell) (t b k : ℕ) (x : Screen) (s : State) → run (source_byte c k) (on x s) ≡ done b (on x s) → t + k < 16384 → x.used < length x.journal
    → run (move_byte c (cell vdp t) k) (on x s) ≡ done tt (on (put (t + k) b x) s)
unfolding move_byte deliver
moved c t b k x s r h l = rw (run_bind _ _ _, r, andthen_done _ _ _) (poked (t + k) b x s h l)

-- by the memory it comes from
abbrev pub turn_of : Memory → ℕ → Machine → ℕ → Screen → ℕ
turn_of Cpu a m = outside m.pad.now a
turn_of Vdp a m = inside a
turn_of Register a m = outside [] a
turn_of Grom a m = outside m.image.now a

read_pad : (a i : ℕ) (x : Screen) (s : State) → a + i < 0xE0 → run (source_byte (cell cpu a) i) (on x s) ≡ done (outside s.rest.mem.pad a i x) (on x s)
unfolding source_byte run exec perform reads act_reads marked
read_pad a i x s h = rw (lt-ltb (a + i) _ h) refl

read_vram : (a i : ℕ) (x : Screen) (s : State) → a + i < 16384 → run (source_byte (cell vdp a) i) (on x s) ≡ done (inside a i x) (on x s)
unfolding source_byte run exec perform reads act_reads marked
read_vram a i x s h = rw (lt-ltb (a + i) _ h) refl

read_image : (a i : ℕ) (x : Screen) (s : State) → s.rest.map ≡ [] → a + i < 65536 → a + i < length s.rest.mem.image
    → run (source_byte (cell grom a) i) (on x s) ≡ done (outside s.rest.mem.image a i x) (on x s)
unfolding source_byte run exec perform reads act_reads marked
read_image a i x s z w h = rw (mod-eq_of_lt w, lt-ltb (a + i) _ h, z) refl

turns_read : (k : Memory) (a n : ℕ) (m : Machine) → n ≤ clear k m - a → Reads (cell (kind_of k) a) (turn_of k a m) n (state m)
unfolding rest_of
turns_read Cpu a n m h i x l = read_pad a i x (state m) (omega arith)
turns_read Vdp a n m h i x l = read_vram a i x (state m) (omega arith)
turns_read Register a n m h i x l = absurd (omega arith)
turns_read Grom a n m h i x l = go m.map.now refl h
  where
    go : (z : List ℕ) → m.map.now ≡ z → n ≤ clear_grom z (length m.image.now) - a
        → run (source_byte (cell grom a) i) (on x (state m)) ≡ done (outside m.image.now a i x) (on x (state m))
    go [] e g = read_image a i x (state m) e (omega arith) (omega arith)
    go (b ∷ z) e g = absurd (omega arith)

-- a machine with a plain journal is its own, with its VDP RAM and journal
plain : (m : Machine) → m.first ≡ None → state m ≡ on (screen_in m) (state m)
unfolding rest_of seen rings
plain m e = rw e refl

-- that many bytes surely go
pub sure_moves : (n t : ℕ) (f : ends.End) (m : Machine) → m.first ≡ None → IsSure n f t m
    → run (move_bytes n 0 (end_of f) (cell vdp t)) (state m) ≡ done tt (on (stored n 0 (turn_of f.memory f.at m) t (screen_in m)) (state m))
sure_moves n t f m e h =
    let by = turn_of f.memory f.at m in
    ap (run (move_bytes n 0 (end_of f) (cell vdp t))) (plain m e)
    ∙ turns_made (moves (end_of f) (cell vdp t)) by t (state m) n 0 (screen_in m)
    (λ i x b l. moved (end_of f) t (by i x) i x (state m) (turns_read f.memory f.at n m h.0 i x (omega arith)) (omega (arith, h.1)) l) h.2

-- ---- ALL

pub fills : (a b : ℕ) → Repeats (λ n k. fill n (a + k) b) (λ k. poke vdp (a + k) b)
unfolding fill
fills a b = record { none = λ k. refl; more = λ n k. let on : a + suc k ≡ suc (a + k) = omega arith in rw on refl }

pub sure_fills : (a b n : ℕ) (m : Machine) → m.first ≡ None → n ≤ 16384 - a → n ≤ length m.journal.now - m.used
    → run (fill n a b) (state m) ≡ done tt (on (stored n 0 (always b) a (screen_in m)) (state m))
sure_fills a b n m e h l =
    let here : a ≡ a + 0 = omega arith in
    ap (λ (c : ℕ). run (fill n c b) (state m)) here
    ∙ ap (run (fill n (a + 0) b)) (plain m e)
    ∙ turns_made (fills a b) (always b) a (state m) n 0 (screen_in m) (λ i y c. poked (a + i) b y (state m) (omega (arith, h))) l

-- some cells are filled: the others are left
pub fills_left : (a b p n : ℕ) (s t : State) → p ≤ n → run (fill p a b) s ≡ done tt t → run (fill n a b) s ≡ run (fill (n - p) (a + p) b) t
fills_left a b p n s t h e =
    let here : a ≡ a + 0 = omega arith in
    ap (λ (c : ℕ). run (fill n c b) s) here ∙ turns_left (fills a b) p n s t h (ap (λ (c : ℕ). run (fill p c b) s) (sym here) ∙ e)
