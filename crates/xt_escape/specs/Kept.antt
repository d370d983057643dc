-- Which bytes of a text are kept as they are, where its first and its last character are left aside; of this project.
--
--   is_kept_byte  no character that is written as a reference begins with the byte
--   inner_text    the characters of a text written by `escape_char` alone
use Rattle.std.specs.Prelude.{ℕ, Bool, ◌||◌, ◌==◌, not, List, encode_utf8_all}
use Rattle.std.specs.List.{flat_map}
use Rattle.std.specs.Str.{chars}
use Rattle.xt_spec.specs.Escape.{escape_char}

-- the byte is none of `&`, `<`, `>` and CR, and not the first one of U+FEFF
abbrev pub is_kept_byte : ℕ → Bool
is_kept_byte b = not (b == 0x26 || b == 0x3C || b == 0x3E || b == 0xD || b == 0xEF)

-- the bytes that are written for a text (its bytes) by which another one goes on at both ends
abbrev pub inner_text : List ℕ → List ℕ
inner_text text = encode_utf8_all (flat_map escape_char (chars text))
