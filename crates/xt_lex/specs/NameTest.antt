-- Names as tests that compute, of bytes and of texts.
--
--   is_name_byte  a byte that may stand in a name
--   qname         Namespaces, [7] QName, as a test
--   name_class    the bytes that may stand in a name, as spans
use Rattle.std.specs.Prelude.{ℕ, Bool, ◌&&◌, List, [], ◌∷◌, ◌||◌, ◌==◌, nat_le, if◌then◌else◌, length}
use Rattle.std.specs.List.{position_or_len, before_first, after_first}
use Rattle.std.specs.Str.{chars}
use Rattle.xt_spec.specs.Char.{is_name_char}
use Rattle.xt_spec.specs.Name.{are_ncname_chars}
use Rattle.xt_scan.specs.Look.{Span, from_to, from_on}

-- a byte that may stand in a name: one of 128 or more, or an ASCII NameChar
abbrev pub is_name_byte : ℕ → Bool
is_name_byte b = nat_le 128 b || is_name_char b

-- a QName as a test: with a colon, what stands on the two sides of the first
abbrev pub qname : List ℕ → Bool
qname text =
    if position_or_len (λ b. b == 0x3A) text == length text then are_ncname_chars (chars text)
    else are_ncname_chars (chars (before_first (λ b. b == 0x3A) text)) && are_ncname_chars (chars (after_first (λ b. b == 0x3A) text))

-- the bytes that may stand in a name, as spans
abbrev pub name_class : List Span
name_class = from_to 0x2D 0x2E ∷ from_to 0x30 0x3A ∷ from_to 0x41 0x5A ∷ from_to 0x5F 0x5F ∷ from_to 0x61 0x7A ∷ from_on 0x80 ∷ []
