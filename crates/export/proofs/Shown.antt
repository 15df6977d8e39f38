-- What the viewer shows, by an offset and a length.
use Rattle.std.proofs.Common.{◌≡◌, refl, ◌∙◌, ap, sym, Bool, true, false, List, [], ◌∷◌, ℕ, zero, suc, ◌+◌, eqb, leb, length, take, drop, ne_eqb, eq-eqb}
use Rattle.rules.specs.Machine.{pick, ◌also◌, cpu, vdp, size, reach}
use Rattle.rules.specs.Calls.{Memory, cpu_ram, vdp_ram, kind_of, viewed, view}
use Rattle.export.specs.Meaning.{bytes_of, shown, named, Shows}

-- ---- by the memory's number

module _ (m : ℕ) (p v : List ℕ) (at len : ℕ) where
  pub shown_pad : (s : List ℕ) → m ≡ 0 → s ≡ view cpu_ram p v at len → length s ≡ length (shown m p v at len)
  unfolding shown
  shown_pad s z e = rw (eq-eqb _ _ z, e)

  pub shown_vdp : (s : List ℕ) → (m ≡ 0 → ⊥) → m ≡ 1 → s ≡ view vdp_ram p v at len → length s ≡ length (shown m p v at len)
  unfolding shown
  shown_vdp s z o e = rw (ne_eqb _ _ z, eq-eqb _ _ o, e)

  pub shown_none : (m ≡ 0 → ⊥) → (m ≡ 1 → ⊥) → 0 ≡ length (shown m p v at len)
  unfolding shown
  shown_none z o = rw (ne_eqb _ _ z, ne_eqb _ _ o)

-- ---- as many bytes from there on as are shown are those shown

take_as_long : (n : ℕ) (xs : List ℕ) → take (length (take n xs)) xs ≡ take n xs
take_as_long zero xs = refl
take_as_long (suc n) [] = refl
take_as_long (suc n) (x ∷ xs) = ap (λ (l : List ℕ). x ∷ l) (take_as_long n xs)

module _ (p v : List ℕ) (at len : ℕ) where
  view_there : (w : Memory) → named at (length (view w p v at len)) (viewed w p v) ≡ view w p v at len
  unfolding view
  view_there w = go (eqb (length p) (size cpu) also eqb (length v) (size vdp) also leb (at + len) (reach (kind_of w)))
    where
      go : (b : Bool) → named at (length (pick b (named at len (viewed w p v)) [])) (viewed w p v) ≡ pick b (named at len (viewed w p v)) []
      go true = take_as_long len (drop at (viewed w p v))
      go false = refl

  shown_there : (m : ℕ) → named at (length (shown m p v at len)) (bytes_of m p v) ≡ shown m p v at len
  unfolding shown
  shown_there m = go (eqb m 0) (eqb m 1)
    where
      go : (b c : Bool)
          → named at (length (pick b (view cpu_ram p v at len) (pick c (view vdp_ram p v at len) []))) (pick b p (pick c v []))
          ≡ pick b (view cpu_ram p v at len) (pick c (view vdp_ram p v at len) [])
      go true c = view_there cpu_ram
      go false true = view_there vdp_ram
      go false false = refl

-- ---- with the offset 0 where none are

module _ (m : ℕ) (p v : List ℕ) (at len n : ℕ) (e : n ≡ length (shown m p v at len)) where
  there : named at n (bytes_of m p v) ≡ shown m p v at len
  there = ap (λ (k : ℕ). named at k (bytes_of m p v)) e ∙ shown_there p v at len m

  empty : n ≡ 0 → (o : ℕ) → named o n (bytes_of m p v) ≡ []
  empty z o = ap (λ (k : ℕ). named o k (bytes_of m p v)) z

module _ {m : ℕ} {p v : List ℕ} {at len n : ℕ} where
  pub placed_none : n ≡ length (shown m p v at len) → n ≡ 0 → Shows m p v at len 0 n
  placed_none e z =
      record {
        bytes = empty m p v at len n e z 0 ∙ sym (empty m p v at len n e z at) ∙ there m p v at len n e;
        place = rw (eq-eqb _ _ (sym e ∙ z)) (ap (λ (k : ℕ). 0 ∷ k ∷ []) e);
      }

  pub placed : n ≡ length (shown m p v at len) → (n ≡ 0 → ⊥) → Shows m p v at len at n
  placed e h = record { bytes = there m p v at len n e; place = rw (ne_eqb _ _ (λ z. h (e ∙ z))) (ap (λ (k : ℕ). at ∷ k ∷ []) e) }
