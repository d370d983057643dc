-- The words of a script and their values; of this project. A text is the list of its bytes.
--
--   AreSpelled    the text is those of some parts, joined
--   IsNumber      N: a number in decimal digits
--   IsPlace       PLACE: steps into the printed tree, then reference steps
--   side_text     SIDE
--   IsString      STRING, with its quotes, and its value
--   IsWord        one word of a command
--   AreWords      words with spaces between
use Rattle.std.specs.Prelude.{◌≡◌, ◌≢◌, ℕ, ◌≤◌, Bool, true, false, not, ◌&&◌, ◌||◌, ◌==◌, IsTrue, List, [], ◌∷◌, ◌++◌, ◌⊎◌, length, replicate, codes, encode_utf8}
use Rattle.std.specs.List.{list_all, concat}
use Rattle.xt_spec.specs.Char.{is_within}
use Rattle.xt_spec.specs.Name.{IsQName}
use Rattle.xt_spec.specs.Reference.{is_decimal_digit, is_hexadecimal_digit, AreDigits}
use Rattle.bk_name.specs.FileName.{is_file_name}

-- the text is that of the first part, then that of the second, and so on to its end
abbrev pub AreSpelled : {A : Type 0} → (List ℕ → A → Type 0) → List ℕ → List A → Type 0
AreSpelled IsSpelled text [] = text ≡ []
AreSpelled IsSpelled text (part ∷ parts) =
    (first rest : List ℕ) × IsSpelled first part × AreSpelled IsSpelled rest parts × (text ≡ first ++ rest)

-- the one byte between words
abbrev pub is_blank : ℕ → Bool
is_blank b = b == 0x20

-- spaces, or nothing
abbrev pub IsBlank : List ℕ → Type 0
IsBlank text = IsTrue (list_all is_blank text)

abbrev pub begins_with : ℕ → List ℕ → Bool
begins_with c [] = false
begins_with c (b ∷ bs) = b == c

-- N: `0`, or decimal digits without a leading zero, at most 4294967295
pub record IsNumber (text : List ℕ) (n : ℕ) : Type 0 where
  pub digits : AreDigits 10 is_decimal_digit text n
  pub plain : (text ≡ codes "0") ⊎ (begins_with 0x30 text ≡ false)
  pub small : n ≤ 4294967295

-- a slash and an N that isn't 0
abbrev pub IsStep : List ℕ → ℕ → Type 0
IsStep text n = (digits : List ℕ) × IsNumber digits n × (n ≢ 0) × (text ≡ 0x2F ∷ digits)

-- the numbers of a place, from 1, and how many `^` follow
pub record Place : Type 0 where
  pub numbers : List ℕ
  pub carets : ℕ

-- PLACE: one step or more, then any number of `^`
abbrev pub IsPlace : List ℕ → Place → Type 0
IsPlace text place =
    (steps : List ℕ) × AreSpelled IsStep steps place.numbers × (place.numbers ≢ []) × (text ≡ steps ++ replicate place.carets 0x5E)

pub data Side : Type 0 where
  side_first : Side
  side_last : Side
  side_before : Side
  side_after : Side

-- SIDE
abbrev pub side_text : Side → List ℕ
side_text side_first = codes "first"
side_text side_last = codes "last"
side_text side_before = codes "before"
side_text side_after = codes "after"

-- a Unicode scalar value, by its code point: no surrogate
abbrev pub is_scalar : ℕ → Bool
is_scalar c = is_within 0 0xD7FF c || is_within 0xE000 0x10_FFFF c

-- a byte that stands for itself in a string: no quote, backslash, LF or CR. A line is UTF-8, so a character does.
abbrev pub is_plain : ℕ → Bool
is_plain b = not (b == 0x22) && not (b == 0x5C) && not (b == 0xA) && not (b == 0xD)

-- `u{H}`, H one to six hexadecimal digits that spell the code point of a scalar value
pub record IsCodePoint (text : List ℕ) (c : ℕ) : Type 0 where
  pub digits : List ℕ
  pub spelled : AreDigits 16 is_hexadecimal_digit digits c
  pub short : length digits ≤ 6
  pub scalar : IsTrue (is_scalar c)
  pub whole : text ≡ codes "u{" ++ digits ++ codes "}"

-- what stands behind a backslash, and the code point that it stands for: `"`, `\`, `n`, `t`, `r` or a code point
abbrev pub IsEscape : List ℕ → ℕ → Type 0
IsEscape text c =
    ((text ≡ 0x22 ∷ []) × (c ≡ 0x22)) ⊎ (((text ≡ 0x5C ∷ []) × (c ≡ 0x5C)) ⊎ (((text ≡ codes "n") × (c ≡ 0xA))
    ⊎ (((text ≡ codes "t") × (c ≡ 0x9)) ⊎ (((text ≡ codes "r") × (c ≡ 0xD)) ⊎ IsCodePoint text c))))

-- one part of a string, and its value in UTF-8: a byte that stands for itself, or a backslash and an escape
abbrev pub IsStringPart : List ℕ → List ℕ → Type 0
IsStringPart text value =
    ((b : ℕ) × IsTrue (is_plain b) × (text ≡ b ∷ []) × (value ≡ b ∷ []))
    ⊎ ((escape : List ℕ) × (c : ℕ) × IsEscape escape c × (text ≡ 0x5C ∷ escape) × (value ≡ encode_utf8 c))

-- STRING: parts between two quotes; its value joins theirs
abbrev pub IsString : List ℕ → List ℕ → Type 0
IsString text value =
    (body : List ℕ) × (parts : List (List ℕ)) × AreSpelled IsStringPart body parts × (text ≡ 0x22 ∷ (body ++ 0x22 ∷ [])) × (value ≡ concat parts)

-- one word of a command: letters as they are, N, PLACE, SIDE, QNAME, STRING, and a STRING that names a book file
pub data Word : Type 0 where
  letters : List ℕ → Word
  number : ℕ → Word
  place : Place → Word
  side : Side → Word
  qname : List ℕ → Word
  string : List ℕ → Word
  file : List ℕ → Word

abbrev pub IsWord : List ℕ → Word → Type 0
IsWord text (letters w) = text ≡ w
IsWord text (number n) = IsNumber text n
IsWord text (place p) = IsPlace text p
IsWord text (side s) = text ≡ side_text s
IsWord text (qname q) = IsQName q × (text ≡ q)
IsWord text (string value) = IsString text value
IsWord text (file value) = IsString text value × (is_file_name value ≡ true)

-- what may follow a word: the end, or a space
abbrev pub MayFollow : List ℕ → Type 0
MayFollow [] = Unit {0}
MayFollow (b ∷ bs) = b ≡ 0x20

-- the words in their order, one or more spaces between them, optional spaces before and behind
abbrev pub AreWords : List ℕ → List Word → Type 0
AreWords text [] = IsBlank text
AreWords text (word ∷ words) =
    (before spelled rest : List ℕ) × IsBlank before × IsWord spelled word × MayFollow rest × AreWords rest words × (text ≡ before ++ (spelled ++ rest))
