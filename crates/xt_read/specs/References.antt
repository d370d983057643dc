-- The references of a value, without its quotes, one behind the other.
--
--   LacksByte        the byte doesn't stand in the text
--   HasParts         the text is spelled by characters and by references that stand for a character
--   AreSingles       the text is spelled by characters and references, taken one by one
--   IsUpToSemicolon  the text is cut behind its first `;`
use Rattle.std.specs.Prelude.{◌≡◌, ◌<◌, ℕ, Bool, IsUtf8, length, not, ◌==◌, IsTrue, List, [], ◌∷◌, ◌++◌}
use Rattle.std.specs.List.{AllByRecursion, list_all, concat}
use Rattle.xt_spec.specs.Tag.{IsValuePart, IsQuote}
use Rattle.xt_spec.specs.Value.{ValuePart, value_parts_text, AreValueParts}

abbrev pub is_other : ℕ → ℕ → Bool
is_other byte b = not (b == byte)

abbrev pub LacksByte : ℕ → List ℕ → Type 0
LacksByte byte text = IsTrue (list_all (is_other byte) text)

abbrev pub HasParts : ℕ → List ℕ → Type 0
HasParts q text = (parts : List ValuePart) × AreValueParts q parts × (value_parts_text parts ≡ text)

abbrev pub AreSingles : ℕ → List (List ℕ) → List ℕ → Type 0
AreSingles q singles text = AllByRecursion (IsValuePart q) singles × (concat singles ≡ text)

-- the text up to its first `;`, and what follows
pub record IsUpToSemicolon (text front rest : List ℕ) : Type 0 where
  pub body : List ℕ
  pub joined : text ≡ front ++ rest
  pub lacks : LacksByte 0x3B body
  pub ends : front ≡ body ++ 0x3B ∷ []
  pub utf8 : IsUtf8 rest

-- nothing follows, or an `&`
abbrev pub Edge : List ℕ → Type 0
Edge [] = Unit {0}
Edge (b ∷ bytes) = b ≡ 0x26

abbrev pub BeginsReference : List ℕ → Type 0
BeginsReference text = (tail : List ℕ) × (text ≡ 0x26 ∷ tail)

-- some reference stands for no character
abbrev pub HasNoParts : List ℕ → Type 0
HasNoParts text = (q : ℕ) (singles : List (List ℕ)) → AreSingles q singles text → HasParts q text → ⊥

-- what holds of the one text holds of the other
pub record IsSame (text rest : List ℕ) : Type 0 where
  pub left : (q : ℕ) (singles : List (List ℕ)) → AreSingles q singles text → (left : List (List ℕ)) × AreSingles q left rest
  pub forth : (q : ℕ) (singles : List (List ℕ)) → AreSingles q singles text → HasParts q text → HasParts q rest
  pub back : (q : ℕ) (singles : List (List ℕ)) → AreSingles q singles text → HasParts q rest → HasParts q text

-- the rest is what follows a reference that stands for a character, and the characters behind it
pub record IsPastReference (text rest : List ℕ) : Type 0 where
  pub utf8 : IsUtf8 rest
  pub edge : Edge rest
  pub smaller : length rest < length text
  pub same : IsSame text rest

-- the value between the quotes
abbrev pub IsUnquoted : List ℕ → List ℕ → Type 0
IsUnquoted quoted value = (q : ℕ) × IsQuote q × (quoted ≡ (q ∷ value) ++ q ∷ [])
