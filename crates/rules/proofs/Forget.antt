-- 02, item 5: the oldest words dropped. It may be done before stores as well as after them, a few and then more at once, and it is done by whole steps.
use mathlib.Core.Path.{◌≡◌, refl, ◌∙◌, ap, ap₂, sym, subst}
use mathlib.Core.Bool.{Bool, true, false}
use mathlib.Core.List.{List, [], ◌∷◌, ◌++◌, append-nil, append_assoc}
use Prim.Native.Nat.{ℕ, zero, suc, ◌+◌, ◌-◌, ◌%◌, ◌≤◌, ◌<◌}
use native.Mathlib.Omega.{arith}
use lib.ListN.{length, set, take, drop, replicate, length-append, length-set, length-drop, length-replicate, replicate-append-replicate}
use lib.Seq.{set-append_left, drop-drop, drop-append-le, take-append-le, drop-set-add, take-add, drop-append_seam, length-take-le}
use Rattle.rules.specs.Machine.{pick, Mem, mem, put}
use Rattle.rules.specs.Journal.{lay, Store, word_of, make, marks, until_mark, oldest, place_on, forget}
use Rattle.rules.specs.Demands.{Drops, enough, another}
use Rattle.rules.proofs.Tests.{false_true}
use Rattle.rules.proofs.Stores.{Made, none, one}

-- ---- the words that are left

pub length_forget : (d : ℕ) (j : List ℕ) → d ≤ length j → length (drop d j ++ replicate d 0) ≡ length j
length_forget d j h = length-append (drop d j) (replicate d 0) ∙ (omega (arith, length-drop d j, length-replicate {A = ℕ} d 0))

-- of the first n of them
pub take_forget : (d n : ℕ) (j : List ℕ) → d ≤ n → n ≤ length j → take (n - d) (drop d j ++ replicate d 0) ≡ drop d (take n j)
take_forget d n j l h =
    let x : d + (n - d) ≡ n = omega arith in
    let y : length (take d j) ≡ d = length-take-le d j (omega arith) in
    take-append-le (n - d) (drop d j) (replicate d 0) (omega (arith, length-drop d j))
    ∙ sym (drop-append_seam (take d j) (take (n - d) (drop d j)))
    ∙ ap₂ (λ (k : ℕ) (l : List ℕ). drop k l) y (sym (take-add d (n - d) j) ∙ ap (λ (k : ℕ). take k j) x)

-- ---- none, and some and then more

abbrev booked : Mem → List ℕ → ℕ → ℕ → ℕ → Mem
booked m j u o a = mem m.image m.groups m.pad m.vram m.regs j u o a m.ring

pub forget_none : (m : Mem) → forget 0 m ≡ m
forget_none m =
    let u : m.used - 0 ≡ m.used = omega arith in
    let o : m.older - 0 ≡ m.older = omega arith in
    ap (λ (j : List ℕ). booked m j (m.used - 0) (m.older - 0) m.place) (append-nil m.journal)
    ∙ ap₂ (λ (x y : ℕ). booked m m.journal x y m.place) u o

place_more : (d e c a : ℕ) → place_on e c (place_on d c a) ≡ place_on (d + e) c a
place_more zero e c a =
    let z : e ≡ 0 + e = omega arith in
    ap (λ (n : ℕ). place_on n c a) z
place_more (suc d) e c a =
    let z : suc (d + e) ≡ suc d + e = omega arith in
    place_more d e c ((a + 1) % c) ∙ ap (λ (n : ℕ). place_on n c a) z

pub forget_more : (d e : ℕ) (m : Mem) → d + e ≤ length m.journal → forget e (forget d m) ≡ forget (d + e) m
forget_more d e m h =
    let j : List ℕ = m.journal in
    let zeros : ℕ → List ℕ = λ n. replicate n 0 in
    let words : drop e (drop d j ++ zeros d) ++ zeros e ≡ drop (d + e) j ++ zeros (d + e) =
    ap (λ (l : List ℕ). l ++ zeros e) (drop-append-le e (drop d j) (zeros d) (omega (arith, length-drop d j)) ∙ ap (λ (l : List ℕ). l ++ zeros d) (drop-drop e d j))
    ∙ append_assoc (drop (d + e) j) (zeros d) (zeros e) ∙ ap (λ (l : List ℕ). drop (d + e) j ++ l) (replicate-append-replicate d e 0) in
    let place : place_on e (length (drop d j ++ zeros d)) (place_on d (length j) m.place) ≡ place_on (d + e) (length j) m.place =
    ap (λ (c : ℕ). place_on e c (place_on d (length j) m.place)) (length_forget d j (omega arith)) ∙ place_more d e (length j) m.place in
    let u : m.used - d - e ≡ m.used - (d + e) = omega arith in
    let o : m.older - d - e ≡ m.older - (d + e) = omega arith in
    ap₂ (λ (l : List ℕ) (a : ℕ). booked m l (m.used - d - e) (m.older - d - e) a) words place
    ∙ ap₂ (λ (x y : ℕ). booked m (drop (d + e) j ++ zeros (d + e)) x y (place_on (d + e) (length j) m.place)) u o

-- ---- before a word is laid, or after

pub forget_lay : (d w : ℕ) (m : Mem) → d ≤ m.used → m.used < length m.journal → lay w (forget d m) ≡ forget d (lay w m)
forget_lay d w m l h =
    let j : List ℕ = m.journal in
    let u : ℕ = m.used in
    let at : d + (u - d) ≡ u = omega arith in
    let used : suc (u - d) ≡ suc u - d = omega arith in
    let words : set (drop d j ++ replicate d 0) (u - d) w ≡ drop d (set j u w) ++ replicate d 0 =
    set-append_left (drop d j) (replicate d 0) (u - d) w (omega (arith, length-drop d j))
    ∙ ap (λ (x : List ℕ). x ++ replicate d 0) (sym (drop-set-add d j (u - d) w) ∙ ap (λ (i : ℕ). drop d (set j i w)) at) in
    ap₂ (λ (x : List ℕ) (v : ℕ). booked m x v (m.older - d) (place_on d (length j) m.place)) words used
    ∙ ap (λ (c : ℕ). booked m (drop d (set j u w) ++ replicate d 0) (suc u - d) (m.older - d) (place_on d c m.place)) (sym (length-set j u w))

pub forget_make : (d : ℕ) (s : Store) (m : Mem) → d ≤ m.used → m.used < length m.journal → make s (forget d m) ≡ forget d (make s m)
forget_make d s m l h = forget_lay d (word_of s) (put s.kind s.at s.new m) l h

pub made_forget : {m m' : Mem} {ss : List Store} (d : ℕ) → d ≤ m.used → Made m ss m' → Made (forget d m) ss (forget d m')
made_forget d l none = none
made_forget {m} {m'} d l (one {s} {ss} h t) =
    let left : (forget d m).used < length (forget d m).journal = omega (arith, h.word_left, length_forget d m.journal (omega (arith, h.word_left))) in
    one (record { inside = h.inside; allowed = h.allowed; byte = h.byte; word_left = left; was = h.was })
    (subst (λ (x : Mem). Made x ss (forget d m')) (sym (forget_make d s m l h.word_left)) (made_forget d (omega arith) t))

-- ---- the oldest step

pub until_within : (ws : List ℕ) → until_mark ws ≤ length ws
until_within [] = omega arith
until_within (w ∷ ws) = go (marks w) (until_within ws)
  where
    go : (c : Bool) → until_mark ws ≤ length ws → pick c 0 (suc (until_mark ws)) ≤ suc (length ws)
    go true h = omega arith
    go false h = omega arith

pub oldest_within : (ws : List ℕ) → oldest ws ≤ length ws
oldest_within [] = omega arith
oldest_within (w ∷ ws) = omega (arith, until_within ws)

pub oldest_some : (ws : List ℕ) → 0 < length ws → 0 < oldest ws
oldest_some [] h = h
oldest_some (w ∷ ws) h = omega arith

-- ---- as few as will do

-- first for fewer words, then for more
pub drops_then : {b : Bool} {c n n₂ : ℕ} {ws : List ℕ} {d e : ℕ} → n ≤ n₂ → Drops b c n ws d → Drops b c n₂ (drop d ws) e → Drops b c n₂ ws (d + e)
drops_then {b} {c} {n₂ = n₂} {ws = ws} {e = e} l (enough h) k =
    let z : e ≡ 0 + e = omega arith in
    subst (Drops b c n₂ ws) z k
drops_then {b} {c} {n₂ = n₂} {e = e} l (another {ws} {d} r h f) k =
    let z : oldest ws + (d + e) ≡ oldest ws + d + e = omega arith in
    subst (Drops b c n₂ ws) z
    (another r (omega arith) (drops_then l f (subst (λ (x : List ℕ). Drops b c n₂ x e) (sym (drop-drop d (oldest ws) ws)) k)))

-- the oldest step alone, where that makes room
pub drops_one : {b : Bool} {c n : ℕ} (ws : List ℕ) → b ≡ true → c < length ws + n → length ws + n ≤ c + oldest ws → Drops b c n ws (oldest ws)
drops_one {b} {c} {n} ws e l h =
    let z : oldest ws + 0 ≡ oldest ws = omega arith in
    subst (Drops b c n ws) z (another e l (enough (omega (arith, length-drop (oldest ws) ws, oldest_within ws))))

-- where none is dropped there was room
pub drops_plain : {b : Bool} {c n : ℕ} {ws : List ℕ} {d : ℕ} → b ≡ false → Drops b c n ws d → d ≡ 0
drops_plain e (enough h) = refl
drops_plain e (another r h f) = absurd (false_true (sym e ∙ r))

-- and there is, with what was dropped
pub drops_room : {b : Bool} {c n : ℕ} {ws : List ℕ} {d : ℕ} → Drops b c n ws d → (d ≤ length ws) × (length ws - d + n ≤ c)
drops_room (enough h) = (omega arith, omega arith)
drops_room (another {ws} {d} r h f) =
    let k : (d ≤ length (drop (oldest ws) ws)) × _ = drops_room f in
    (omega (arith, k.0, length-drop (oldest ws) ws, oldest_within ws), omega (arith, k.0, k.1, length-drop (oldest ws) ws, oldest_within ws))
