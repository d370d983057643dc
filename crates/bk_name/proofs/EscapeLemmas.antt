-- The escapes of names, and percent-encoding by the set of bytes that are escaped.
use Rattle.std.proofs.Common.{◌≡◌, ℕ, ◌<◌, false, not, List, [], ◌∷◌, sym, refl, ap, ◌∙◌, ⊎_elim, arith}
use Rattle.std.specs.Char.{is_ascii}
use Rattle.std.specs.List.{flat_map}
use Rattle.std.proofs.lemmas.Bool.{cond-true, cond-false, cases_Bool, agree_below_at}
use Rattle.std.proofs.lemmas.Bool.Decides.{nat_tests}
use Rattle.percent_encoding.specs.AsciiSet.{contains, should_percent_encode}
use Rattle.percent_encoding.specs.Percent.{encode_byte, percent_encode, percent_encode_byte}
use Rattle.bk_name.specs.declared.file_uri.TheConstants.{NAME_ESCAPES}
use Rattle.bk_name.specs.Base.{is_unescaped, escaped_byte, escaped_name}

-- the set has the ASCII bytes that are escaped
contains-NAME_ESCAPES : (b : ℕ) → b < 128 → contains NAME_ESCAPES b ≡ not (is_unescaped b)
contains-NAME_ESCAPES b ascii = agree_below_at (contains NAME_ESCAPES) (λ b. not (is_unescaped b)) 128 b refl ascii

should_percent_encode-NAME_ESCAPES : (b : ℕ) → should_percent_encode NAME_ESCAPES b ≡ not (is_unescaped b)
unfolding should_percent_encode
should_percent_encode-NAME_ESCAPES b =
    ⊎_elim
    (λ ascii. rw ascii (contains-NAME_ESCAPES b (grind (arith, nat_tests))))
    (λ (other : is_ascii b ≡ false).
    let escaped : is_unescaped b ≡ false = grind (arith, nat_tests) in
    rw (other, escaped) refl)
    (cases_Bool (is_ascii b))

encode_byte-NAME_ESCAPES : (b : ℕ) → encode_byte NAME_ESCAPES b ≡ escaped_byte b
encode_byte-NAME_ESCAPES b =
    let test = should_percent_encode-NAME_ESCAPES b in
    ⊎_elim
    (λ kept. cond-false _ _ _ (test ∙ ap not kept) ∙ sym (cond-true _ (b ∷ []) (percent_encode_byte b) kept))
    (λ escaped. cond-true _ _ _ (test ∙ ap not escaped) ∙ sym (cond-false _ (b ∷ []) (percent_encode_byte b) escaped))
    (cases_Bool (is_unescaped b))

-- the crate's encoding by the set is the escaped name
pub percent_encode-escaped_name : (name : List ℕ) → percent_encode NAME_ESCAPES name ≡ escaped_name name
unfolding percent_encode escaped_name
percent_encode-escaped_name name = λ i. flat_map (λ b. encode_byte-NAME_ESCAPES b i) name
