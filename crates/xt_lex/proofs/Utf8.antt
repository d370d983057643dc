-- Names, white space and ASCII are text.
use Rattle.std.proofs.Common.{◌≡◌, ℕ, List, [], ◌∷◌, true, refl, arith, inl, inr, codes}
use Rattle.std.proofs.lemmas.Bool.{and_parts}
use Rattle.std.proofs.lemmas.Bool.Decides.{nat_tests}
use Rattle.std.proofs.lemmas.Str.{IsUtf8-append}
use Rattle.std.proofs.lemmas.Str.Ascii.{IsAscii-cons, IsAscii-nil}
use Rattle.std.specs.Str.{IsUtf8, IsAscii}
use lib.Utf8.{scalar}
use Rattle.xt_spec.specs.Char.{is_char}
use Rattle.xt_spec.specs.Name.{IsNCName, IsQName}
use Rattle.xt_spec.specs.Tag.{IsBlank}
use Rattle.xt_lex.proofs.Runs.{space_ascii}
use Rattle.xt_lex.proofs.NameLemmas.{all_scalars, name_all}
pub use Rattle.xt_scan.proofs.Theorems.{ascii_from, ascii, blank_utf8}

pub char_scalar : (c : ℕ) → is_char c ≡ true → scalar c ≡ true
char_scalar c h = grind (arith, nat_tests)

pub blank_ascii : (text : List ℕ) → IsBlank text → IsAscii text
blank_ascii [] h = IsAscii-nil
blank_ascii (b ∷ bs) h =
    let both = and_parts _ _ h in
    IsAscii-cons b bs (space_ascii b both.0) (blank_ascii bs both.1)

pub ncname_utf8 : (text : List ℕ) → IsNCName text → IsUtf8 text
ncname_utf8 text (cs, e, h) = (cs, (all_scalars cs (name_all cs (and_parts _ _ h).0), e))

pub qname_utf8 : (text : List ℕ) → IsQName text → IsUtf8 text
qname_utf8 text (inl h) = ncname_utf8 text h
qname_utf8 text (inr (prefix, local, p, l, e)) =
    rw e (IsUtf8-append prefix (58 ∷ local) (ncname_utf8 prefix p) (IsUtf8-append (58 ∷ []) local (ascii (codes ":") refl) (ncname_utf8 local l)))
