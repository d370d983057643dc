-- What the crates above cite of this one: laws of what is written for a text, whose characters are `cs`, with no call.
--
--   escape_is_text_item  it spells a text item, where the characters are Chars and there are some
--   escape_has_value     whose value is the text
--   escape_has_no_cr     no byte of it is a CR, whatever the text
--   escape_is_utf8       it is UTF-8, where the characters are; chars_are_scalars: as Chars are
--   escape_not_empty     it is empty for no other text than the empty one
--   escape_length        it has at most five bytes for each byte of the text
use Rattle.std.proofs.Common.{◌≡◌, ◌≢◌, ◌∙◌, ℕ, ◌*◌, ◌≤◌, List, [], ◌∷◌, length, refl, sym, ap, arith, true, not, ◌==◌, encode_utf8_all}
use Rattle.std.proofs.lemmas.Str.{length-le-encodes}
use Rattle.std.specs.List.{list_all}
use Rattle.std.specs.Str.{IsUtf8}
use lib.Utf8.{scalars}
use Rattle.xt_spec.specs.Char.{is_char}
use Rattle.xt_spec.specs.Text.{IsTextItem, HasTextValue}
use Rattle.xt_spec.specs.Escape.{escape_text}
use Rattle.xt_escape.proofs.Parts.{none_is_cr, runs_are_parts}
use Rattle.xt_escape.proofs.Escaped.{from_written, from_no_cr, from_scalars, from_some, from_length}
pub use Rattle.xt_escape.proofs.Escaped.{chars_are_scalars}

pub escape_not_empty : (cs : List ℕ) → cs ≢ [] → encode_utf8_all (escape_text cs) ≢ []
escape_not_empty [] some none = some refl
escape_not_empty (c ∷ cs) some none =
    let size = ap length none in
    absurd (omega (arith, from_some true c cs, length-le-encodes (escape_text (c ∷ cs))))

pub escape_has_value : (cs : List ℕ) → list_all is_char cs ≡ true → HasTextValue (encode_utf8_all (escape_text cs)) (encode_utf8_all cs)
escape_has_value cs are =
    let written = from_written true cs are in
    (written.parts, runs_are_parts written.parts written.are, written.spell, written.stand)

pub escape_is_text_item : (cs : List ℕ) → list_all is_char cs ≡ true → cs ≢ [] → IsTextItem (encode_utf8_all (escape_text cs))
escape_is_text_item cs are some =
    let written = from_written true cs are in
    (written.parts, runs_are_parts written.parts written.are, (λ none. escape_not_empty cs some (sym written.spell ∙ rw none refl)), written.spell)

pub escape_has_no_cr : (cs : List ℕ) → list_all (λ b. not (b == 0xD)) (encode_utf8_all (escape_text cs)) ≡ true
escape_has_no_cr cs = none_is_cr (escape_text cs) (from_no_cr true cs)

pub escape_is_utf8 : (cs : List ℕ) → scalars cs ≡ true → IsUtf8 (encode_utf8_all (escape_text cs))
escape_is_utf8 cs are = (escape_text cs, (from_scalars true cs are, refl))

pub escape_length : (cs : List ℕ) → length (encode_utf8_all (escape_text cs)) ≤ 5 * length (encode_utf8_all cs)
escape_length cs = from_length true cs
