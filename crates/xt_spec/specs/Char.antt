-- Characters by their code points, after XML 1.0 (Fifth Edition), sections 2.2 and 2.3.
--
--   is_char             [2] Char
--   is_space            a character of [3] S
--   is_name_start_char  [4] NameStartChar
--   is_name_char        [4a] NameChar
use Rattle.std.specs.Prelude.{ℕ, Bool, ◌||◌, ◌&&◌, ◌==◌, not, nat_le}

-- lo and hi bound the code point c, both counted
abbrev pub is_within : ℕ → ℕ → ℕ → Bool
is_within lo hi c = nat_le lo c && nat_le c hi

-- [2] Char: a code point that a document may hold
abbrev pub is_char : ℕ → Bool
is_char c =
    c == 0x9 || c == 0xA || c == 0xD
    || is_within 0x20 0xD7FF c || is_within 0xE000 0xFFFD c || is_within 0x1_0000 0x10_FFFF c

-- a character of [3] S: space, tab, CR, LF. It is one byte.
abbrev pub is_space : ℕ → Bool
is_space c = c == 0x20 || c == 0x9 || c == 0xD || c == 0xA

-- [4] NameStartChar, the colon counted
abbrev pub is_name_start_char : ℕ → Bool
is_name_start_char c =
    c == 0x3A || is_within 0x41 0x5A c || c == 0x5F || is_within 0x61 0x7A c
    || is_within 0xC0 0xD6 c || is_within 0xD8 0xF6 c || is_within 0xF8 0x2FF c
    || is_within 0x370 0x37D c || is_within 0x37F 0x1FFF c || is_within 0x200C 0x200D c
    || is_within 0x2070 0x218F c || is_within 0x2C00 0x2FEF c || is_within 0x3001 0xD7FF c
    || is_within 0xF900 0xFDCF c || is_within 0xFDF0 0xFFFD c || is_within 0x1_0000 0xE_FFFF c

-- [4a] NameChar
abbrev pub is_name_char : ℕ → Bool
is_name_char c =
    is_name_start_char c || c == 0x2D || c == 0x2E || is_within 0x30 0x39 c || c == 0xB7
    || is_within 0x300 0x36F c || is_within 0x203F 0x2040 c

-- any code point but the colon
abbrev pub is_not_colon : ℕ → Bool
is_not_colon c = not (c == 0x3A)
