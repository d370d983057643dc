-- A text cut behind so many characters; of this project.
--
--   IsCut  the rest is what follows so many characters
use Rattle.std.specs.Prelude.{◌≡◌, ◌≤◌, ℕ, List, ◌++◌, length, take, drop}
use Rattle.std.specs.Str.{chars, IsUtf8}

-- the rest is what follows so many characters of the text
pub record IsCut (text : List ℕ) (count : ℕ) (rest : List ℕ) : Type 0 where
  pub front : List ℕ
  pub cut : text ≡ front ++ rest
  pub utf8 : IsUtf8 front
  pub rest_utf8 : IsUtf8 rest
  pub within : count ≤ length (chars text)
  pub taken : chars front ≡ take count (chars text)
  pub left : chars rest ≡ drop count (chars text)
