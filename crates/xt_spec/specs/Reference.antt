-- References, after XML 1.0 (Fifth Edition), sections 4.1 and 4.6. A text is the list of its bytes, as written.
--
--   NamesChar    [66] CharRef, and the character that it names
--   IsEntityRef  [68] EntityRef, whose name is an NCName (Namespaces in XML 1.0, section 4)
--   IsPredefined a reference to one of the five predefined entities, and its character (section 4.6)
--   StandsFor    one of the two that stand for a character
use Rattle.std.specs.Prelude.{◌≡◌, ℕ, ◌+◌, ◌-◌, ◌*◌, Bool, ◌||◌, if◌then◌else◌, nat_le, IsTrue, List, [], ◌∷◌, ◌++◌, ◌≢◌, ◌⊎◌, codes}
use Rattle.std.specs.List.{list_all}
use Rattle.xt_spec.specs.Char.{is_within, is_char}
use Rattle.xt_spec.specs.Name.{IsNCName}

abbrev pub is_decimal_digit : ℕ → Bool
is_decimal_digit c = is_within 0x30 0x39 c

abbrev pub is_hexadecimal_digit : ℕ → Bool
is_hexadecimal_digit c = is_within 0x30 0x39 c || is_within 0x41 0x46 c || is_within 0x61 0x66 c

-- what a digit counts; of a character that is no digit it says nothing
abbrev pub digit_value : ℕ → ℕ
digit_value c = if nat_le 0x61 c then c - 0x57 else (if nat_le 0x41 c then c - 0x37 else c - 0x30)

-- the number that digits spell behind a number, in a base; leading zeros count nothing
abbrev pub number_behind : ℕ → ℕ → List ℕ → ℕ
number_behind base n [] = n
number_behind base n (c ∷ cs) = number_behind base (n * base + digit_value c) cs

-- one or more digits that spell the number
pub record AreDigits (base : ℕ) (is_digit : ℕ → Bool) (digits : List ℕ) (number : ℕ) : Type 0 where
  pub some : digits ≢ []
  pub all : IsTrue (list_all is_digit digits)
  pub spell : number_behind base 0 digits ≡ number

-- [66] CharRef: `&#` and decimal digits, or `&#x` and hexadecimal ones, then `;`, that name the Char of the code point
abbrev pub NamesChar : List ℕ → ℕ → Type 0
NamesChar text c = IsTrue (is_char c) × (
    ((digits : List ℕ) × AreDigits 10 is_decimal_digit digits c × (text ≡ codes "&#" ++ digits ++ codes ";"))
    ⊎ ((digits : List ℕ) × AreDigits 16 is_hexadecimal_digit digits c × (text ≡ codes "&#x" ++ digits ++ codes ";")))

-- [68] EntityRef
abbrev pub IsEntityRef : List ℕ → Type 0
IsEntityRef text = (name : List ℕ) × IsNCName name × (text ≡ codes "&" ++ name ++ codes ";")

-- a reference to a predefined entity, and the code point that it stands for (section 4.6)
abbrev pub IsPredefined : List ℕ → ℕ → Type 0
IsPredefined text c =
    ((text ≡ codes "&lt;") × (c ≡ 0x3C)) ⊎ (((text ≡ codes "&gt;") × (c ≡ 0x3E)) ⊎ (((text ≡ codes "&amp;") × (c ≡ 0x26))
    ⊎ (((text ≡ codes "&apos;") × (c ≡ 0x27)) ⊎ ((text ≡ codes "&quot;") × (c ≡ 0x22)))))

-- the reference stands for the character of this code point
abbrev pub StandsFor : List ℕ → ℕ → Type 0
StandsFor text c = NamesChar text c ⊎ IsPredefined text c
