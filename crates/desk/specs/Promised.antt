-- What the theorems about a whole input speak of: pieces that are read, and turns, of which is known what their contract tells.
use Rattle.std.specs.Prelude.{Bool, true, false, List, [], ◌++◌, ℕ}
use Rattle.desk.specs.Desk.{start}
use Rattle.desk.specs.Meaning.{Point, point, Tells}

-- whether the input has ended, what was read of it, what was printed, and the point that this leads to
pub data Obeying : Bool → List ℕ → List ℕ → Point → Type 0 where
  begun : Obeying false [] [] (point 0 [] start)
  reads : {input output : List ℕ} {p : Point} (piece : List ℕ) → Obeying false input output p
      → Obeying false (input ++ piece) output (point p.lines (p.left ++ piece) p.state)
  ends : {input output : List ℕ} {p : Point} → Obeying false input output p → Obeying true input output p
  tells : {ended : Bool} {input output text : List ℕ} {p q : Point} → Obeying ended input output p → Tells ended p text true q
      → Obeying ended input (output ++ text) q

-- in a loop's invariant: some input was read, and some text printed
pub record Midway (p : Point) : Type 0 where
  pub input : List ℕ
  pub output : List ℕ
  pub obeying : Obeying false input output p
