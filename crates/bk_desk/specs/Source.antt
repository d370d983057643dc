-- What a source has left, and what a read takes of it; of this project.
--
--   IsFront      these bytes of the buffer are the front of what was left
--   TakesFront   the same where what is left is told; a source that tells it goes on to, and one that doesn't never begins to
use Rattle.std.specs.Prelude.{◌≡◌, ℕ, ◌≤◌, List, [], ◌++◌, take, length, Option, Some, None}

-- the first `count` bytes of the buffer are the front of what was left; 0 into a buffer that isn't empty only at the end
pub record IsFront (left rest buffer : List ℕ) (count : ℕ) : Type 0 where
  pub parts : left ≡ take count buffer ++ rest
  pub «end» : 1 ≤ length buffer → count ≡ 0 → left ≡ []

-- a read of a source
abbrev pub TakesFront : Option (List ℕ) → Option (List ℕ) → List ℕ → ℕ → Type 0
TakesFront None None buffer count = Unit {0}
TakesFront (Some left) (Some rest) buffer count = IsFront left rest buffer count
TakesFront None (Some rest) buffer count = ⊥
TakesFront (Some left) None buffer count = ⊥
