-- The definitions computed on right and on wrong cases.
use Rattle.std.proofs.Common.{◌≡◌, true, false, refl, codes, bytes_eq}
use Rattle.std.specs.Str.{chars}
use lib.Utf8.{encode}
use Rattle.xt_escape.specs.Kept.{is_kept_byte, inner_text}

-- a letter is kept, and so is a `]`; a `&` isn't, nor the first byte of U+FEFF
letters_are_kept : (is_kept_byte 0x61 ≡ true) × (is_kept_byte 0x5D ≡ true)
letters_are_kept = (refl, refl)

markup_is_not_kept : (is_kept_byte 0x26 ≡ false) × (is_kept_byte 0xEF ≡ false)
markup_is_not_kept = (refl, refl)

-- `<]`, by which a text goes on at both ends
bracket_within_a_text : inner_text (codes "<]") ≡ codes "&lt;]"
unfolding chars encode
bracket_within_a_text = refl

no_greater_than_within : bytes_eq (inner_text (codes "a>")) (codes "a>") ≡ false
unfolding chars encode
no_greater_than_within = refl
