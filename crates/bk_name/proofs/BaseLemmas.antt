-- Bases, and the names of URIs.
use Rattle.std.proofs.Common.{◌≡◌, ℕ, ◌+◌, ◌-◌, Bool, true, false, not, ◌&&◌, List, [], ◌∷◌, ◌++◌, length, take, drop, Some, None, Ok, Err, sym, refl, ap, ◌∙◌, subst, ⊎_elim, arith}
use Rattle.std.proofs.Math.ListN.{drop_of_length-le}
use Rattle.std.specs.Prelude.{Option, is_some, codes, bytes_eq}
use Rattle.std.proofs.lemmas.Bool.{cond-true, cond-false, cases_Bool, and_parts, true≢false}
use Rattle.std.proofs.lemmas.Bool.Decides.{nat_tests}
use Rattle.std.proofs.lemmas.Slice.Eq.{bytes_eq-Decides}
use Rattle.percent_encoding.specs.Percent.{percent_decode}
use Rattle.url.specs.Scheme.{scheme_type, default_port, is_special}
use Rattle.url.specs.Parts.{Parts, serialize, IsValid}
use Rattle.url.specs.Canonical.{IsCanonical}
use Rattle.url.specs.Parser.{parse_url}
use Rattle.url.proofs.InputLemmas.{split_around}
use Rattle.url.proofs.ParsedCanonical.{parse_url_canonical}
use Rattle.bk_name.specs.FileName.{is_file_name}
use Rattle.bk_name.specs.Base.{IsBaseUrl, is_base_scheme, ends_in_slash, is_base_url, is_base, has_tail, name_spelled, name_in}
use Rattle.bk_name.proofs.FileUriLemmas.{IsDirectory}

special_scheme : (scheme : List ℕ) → is_base_scheme scheme ≡ true → is_special (scheme_type scheme) ≡ true
unfolding scheme_type default_port
special_scheme scheme is =
    let by = λ (s : List ℕ) (same : scheme ≡ s) (special : is_special (scheme_type s) ≡ true). subst (λ x. is_special (scheme_type x) ≡ true) (sym same) special in
    ⊎_elim (λ file. by (codes "file") ((bytes_eq-Decides scheme (codes "file")).0 file) refl)
    (λ (no_file : bytes_eq scheme (codes "file") ≡ false). ⊎_elim (λ http. by (codes "http") ((bytes_eq-Decides scheme (codes "http")).0 http) refl)
    (λ (no_http : bytes_eq scheme (codes "http") ≡ false).
    let https : bytes_eq scheme (codes "https") ≡ true = rw (no_file, no_http) at is in
    by (codes "https") ((bytes_eq-Decides scheme (codes "https")).0 https) refl)
    (cases_Bool (bytes_eq scheme (codes "http"))))
    (cases_Bool (bytes_eq scheme (codes "file")))

none_from_test : {A : Type 0} (o : Option A) → not (is_some o) ≡ true → o ≡ None
none_from_test None test = refl
none_from_test (Some x) test = absurd (true≢false (sym test))

slash_last : (path : List ℕ) → ends_in_slash path ≡ true → path ≡ take (length path - 1) path ++ 47 ∷ []
slash_last [] test = absurd (true≢false (sym test))
slash_last (a ∷ path) test =
    let whole = split_around (a ∷ path) (length (a ∷ path) - 1) 47 (omega arith) (grind (arith, nat_tests)) in
    let end : length (a ∷ path) - 1 + 1 ≡ length (a ∷ path) = omega arith in
    whole ∙ ap (λ n. take (length (a ∷ path) - 1) (a ∷ path) ++ 47 ∷ drop n (a ∷ path)) end ∙ ap (λ l. take (length (a ∷ path) - 1) (a ∷ path) ++ 47 ∷ l) (drop_of_length-le (a ∷ path) {i = length (a ∷ path)} (omega arith))

pub directory : (url : Parts) → IsBaseUrl url → IsDirectory url
directory url base =
    let no_fragment = not (is_some url.fragment) in
    let tests = and_parts (is_base_scheme url.scheme && ends_in_slash url.path && not (is_some url.query)) no_fragment base.base in
    let front = and_parts (is_base_scheme url.scheme && ends_in_slash url.path) (not (is_some url.query)) tests.0 in
    let both = and_parts (is_base_scheme url.scheme) (ends_in_slash url.path) front.0 in
    record {
      valid = base.valid;
      canonical = base.canonical;
      special = special_scheme url.scheme both.0;
      parent = take (length url.path - 1) url.path;
      slash = slash_last url.path both.1;
      query = none_from_test url.query front.1;
      fragment = none_from_test url.fragment tests.1;
    }

-- ---- reading a base

pub is_base-parsed : (text : List ℕ) (url : Parts) → parse_url None text ≡ Ok url → is_base text ≡ (bytes_eq (serialize url) text && is_base_url url)
unfolding is_base
is_base-parsed text url parsed = rw parsed refl

pub is_base-refused : (text : List ℕ) (e : _) → parse_url None text ≡ Err e → is_base text ≡ false
unfolding is_base
is_base-refused text e refused = rw refused refl

pub canonical_from_parse : (text : List ℕ) (url : Parts) → IsValid url → parse_url None text ≡ Ok url → IsCanonical url
canonical_from_parse text url valid parsed = parse_url_canonical None text url tt valid parsed

-- ---- the name of a URI

flip : (xs ys : List ℕ) (b : Bool) → bytes_eq xs ys ≡ b → bytes_eq ys xs ≡ b
flip xs ys true same = (bytes_eq-Decides ys xs).1 (sym ((bytes_eq-Decides xs ys).0 same))
flip xs ys false other =
    ⊎_elim (λ same. absurd (true≢false (sym ((bytes_eq-Decides xs ys).1 (sym ((bytes_eq-Decides ys xs).0 same))) ∙ other))) (λ e. e) (cases_Bool (bytes_eq ys xs))

pub name_in-outside : (base uri : List ℕ) → bytes_eq (take (length base) uri) base ≡ false → name_in base uri ≡ None
unfolding name_in
name_in-outside base uri other = cond-false _ _ _ (flip _ base false other)

pub name_in-inside : (base uri rest : List ℕ) → bytes_eq (take (length base) uri) base ≡ true → rest ≡ drop (length base) uri → name_in base uri ≡ name_spelled rest
unfolding name_in
name_in-inside base uri rest same is = cond-true _ _ _ (flip _ base true same) ∙ ap name_spelled (sym is)

pub name_spelled-tail : (rest : List ℕ) → has_tail rest ≡ true → name_spelled rest ≡ None
name_spelled-tail rest tail = rw tail refl

pub name_spelled-ok : (rest bytes : List ℕ) → has_tail rest ≡ false → bytes ≡ percent_decode rest → is_file_name bytes ≡ true → name_spelled rest ≡ Some bytes
name_spelled-ok rest bytes none decoded is = rw (none, ← decoded, is) refl

pub name_spelled-bad : (rest bytes : List ℕ) → has_tail rest ≡ false → bytes ≡ percent_decode rest → is_file_name bytes ≡ false → name_spelled rest ≡ None
name_spelled-bad rest bytes none decoded is = rw (none, ← decoded, is) refl
