-- Tests of bytes that say enough, and not all: where they pass, the exact ones do.
use Rattle.std.specs.Prelude.{nat_lt, ℕ, Bool, false, ◌||◌, ◌&&◌, ◌==◌, not, nat_le, List, [], ◌∷◌}
use Rattle.std.specs.List.{list_all}
use Rattle.xt_spec.specs.Char.{is_within}

-- characters of such bytes alone are Chars: no control, and not the first byte of U+FFFE and U+FFFF
abbrev pub is_sound_byte : ℕ → Bool
is_sound_byte b = (nat_le 0x20 b && not (b == 0xEF)) || b == 0x9 || b == 0xA || b == 0xD

-- .. and none of them is `]`, so that no `]]>` stands among them
abbrev pub is_data_byte : ℕ → Bool
is_data_byte b = is_sound_byte b && not (b == 0x5D)

-- such characters, and none of them is `<`
abbrev pub is_attr_byte : ℕ → Bool
is_attr_byte b = is_sound_byte b && not (b == 0x3C)

-- an ASCII character that may begin an NCName
abbrev pub is_plain_start : ℕ → Bool
is_plain_start b = is_within 0x61 0x7A b || is_within 0x41 0x5A b || b == 0x5F

-- .. that may stand in one
abbrev pub is_plain_byte : ℕ → Bool
is_plain_byte b = is_plain_start b || is_within 0x30 0x39 b || b == 0x2D || b == 0x2E

-- an ASCII NCName
abbrev pub is_plain_name : List ℕ → Bool
is_plain_name [] = false
is_plain_name (b ∷ bs) = is_plain_start b && list_all is_plain_byte bs

-- a text that may end another: ASCII, of one or more bytes
abbrev pub is_ending : List ℕ → Bool
is_ending [] = false
is_ending (b ∷ bs) = nat_lt b 128 && list_all (λ b. nat_lt b 128) bs
