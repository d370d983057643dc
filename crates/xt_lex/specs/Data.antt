-- Character data at the front of a text: the records that say how far it goes.
use Rattle.std.specs.Prelude.{◌≡◌, ℕ, ◌<◌, ◌≤◌, length, take, drop, slice_index, not, ◌⊎◌, ◌++◌, encode_utf8, Bool, false, List}
use Rattle.std.specs.Str.{NoCharPasses}
use Rattle.xt_spec.specs.Char.{is_char}
use Rattle.xt_spec.specs.Token.{BeginsClose, NoCloseBelow}

abbrev pub is_no_char : ℕ → Bool
is_no_char c = not (is_char c)

-- the text begins with a character that is no Char
abbrev pub BeginsNoChar : List ℕ → Type 0
BeginsNoChar text = (c : ℕ) × (rest : List ℕ) × (text ≡ encode_utf8 c ++ rest) × (is_char c ≡ false)

-- the first n bytes are Chars, and what follows them begins with none
pub record AreFirstChars (text : List ℕ) (n : ℕ) : Type 0 where
  pub within : n ≤ length text
  pub chars : NoCharPasses is_no_char (take n text)
  pub stops : n < length text → BeginsNoChar (drop n text)

-- a `<` or a `&`
abbrev pub IsDelimiter : ℕ → Type 0
IsDelimiter b = (b ≡ 0x3C) ⊎ (b ≡ 0x26)

pub record IsFirstDelimiter (bytes : List ℕ) (n : ℕ) : Type 0 where
  pub within : n ≤ length bytes
  pub plain : (i : ℕ) → i < n → ¬ IsDelimiter (slice_index bytes i)
  pub stops : n < length bytes → IsDelimiter (slice_index bytes n)

pub record IsFirstClose (bytes : List ℕ) (n : ℕ) : Type 0 where
  pub within : n ≤ length bytes
  pub unclosed : NoCloseBelow n bytes
  pub stops : n < length bytes → BeginsClose (drop n bytes)

-- the first n bytes are character data, and no more are
pub record IsFirstData (text : List ℕ) (n : ℕ) : Type 0 where
  pub within : n ≤ length text
  pub chars : NoCharPasses is_no_char (take n text)
  pub plain : (i : ℕ) → i < n → ¬ IsDelimiter (slice_index text i)
  pub unclosed : NoCloseBelow n text
  pub stops : n < length text → IsDelimiter (slice_index text n) ⊎ (BeginsClose (drop n text) ⊎ BeginsNoChar (drop n text))
