-- Bytes between two places of a list, where a byte first stands in one, and bytes that come after others.
use Rattle.std.specs.Prelude.{◌≡◌, Bool, true, false, List, [], ◌∷◌, ◌++◌, ℕ, suc, eqb, length, take, drop}

-- from a place up to another
unfoldable pub slice : ℕ → ℕ → List ℕ → List ℕ
slice from end xs = drop from (take end xs)

-- where it stands: here, or so far past this byte
unfoldable pub index_after : Bool → ℕ → ℕ
index_after true n = 0
index_after false n = suc n

-- the place of the first such byte; as many as there are, where none is
unfoldable pub index_of : ℕ → List ℕ → ℕ
index_of b [] = 0
index_of b (c ∷ cs) = index_after (eqb c b) (index_of b cs)

-- a text, and so many bytes more
pub record Gains (was now : List ℕ) (n : ℕ) : Type 0 where
  pub more : List ℕ
  pub is : now ≡ was ++ more
  pub count : length more ≡ n
