-- What is read of a source; of this project.
--
--   IsMore    these bytes are the front of what was left, and nothing was where there are none
--   IsInput   these are all that was left, or so many bytes of it
use Rattle.std.specs.Prelude.{◌≡◌, ◌⊎◌, ℕ, List, [], ◌++◌, length, Option, Some}

pub record IsMore (left : List ℕ) (after : Option (List ℕ)) (front : List ℕ) : Type 0 where
  pub rest : List ℕ
  pub after_is : after ≡ Some rest
  pub parts : left ≡ front ++ rest
  pub all : front ≡ [] → left ≡ []

pub record IsInput (most : ℕ) (left : List ℕ) (after : Option (List ℕ)) (bytes : List ℕ) : Type 0 where
  pub rest : List ℕ
  pub after_is : after ≡ Some rest
  pub parts : left ≡ bytes ++ rest
  pub whole : (rest ≡ []) ⊎ (length bytes ≡ most)
