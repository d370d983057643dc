-- The laws of names and URIs.
use Rattle.std.proofs.Common.{◌≡◌, ℕ, true, not, ◌&&◌, List, drop, length, Some, None, sym, ap, ◌∙◌, subst, ⊎_elim}
use Rattle.std.specs.Prelude.{nat_eq}
use Rattle.std.specs.List.{starts_with}
use Rattle.std.proofs.lemmas.Bool.{cond-true, cond-false, cases_Bool, and_parts}
use Rattle.percent_encoding.specs.Percent.{percent_decode}
use Rattle.url.specs.Parts.{serialize}
use Rattle.bk_name.specs.FileName.{is_file_name}
use Rattle.bk_name.specs.Base.{has_tail, uri_text, name_spelled, name_in}
use Rattle.bk_name.specs.Laws.{IsUriOfFile, FileUrisName, FileUrisDiffer, NamedIsName}
use Rattle.bk_name.proofs.BaseLemmas.{directory}
use Rattle.bk_name.proofs.FileUriLemmas.{file_name, file_url, file_url-valid, file_url-canonical, serialize-file_url, ReadsBack-uri_text, name_in-uri_text}

pub file_uris_name : FileUrisName
file_uris_name base name is_base is =
    let url = is_base.url in
    let dir = directory url is_base.is in
    let file = file_name name is in
    subst (λ b. IsUriOfFile b name (uri_text b name)) is_base.spelled (record {
      uri = record {
        url = file_url url name;
        is = record { valid = file_url-valid url name dir file; canonical = file_url-canonical url name dir file };
        spelled = serialize-file_url url name dir file;
      };
      reads_back = ReadsBack-uri_text url name dir file;
      names = name_in-uri_text (serialize url) name file;
    })

pub file_uris_differ : FileUrisDiffer
file_uris_differ base m n first second same =
    let one = name_in-uri_text base m (file_name m first) in
    let two = name_in-uri_text base n (file_name n second) in
    let both : Some m ≡ Some n = sym one ∙ ap (name_in base) same ∙ two in
    cc

name_spelled-name : (rest name : List ℕ) → name_spelled rest ≡ Some name → is_file_name name ≡ true
name_spelled-name rest name spelled =
    ⊎_elim
    (λ test.
    let named : Some (percent_decode rest) ≡ Some name = sym (cond-true _ _ _ test) ∙ spelled in
    let same : percent_decode rest ≡ name = cc in
    ap is_file_name (sym same) ∙ (and_parts (not (has_tail rest)) (is_file_name (percent_decode rest)) test).1)
    (λ test.
    let none : None ≡ Some name = sym (cond-false _ _ _ test) ∙ spelled in
    cc)
    (cases_Bool (not (has_tail rest) && is_file_name (percent_decode rest)))

pub named_is_name : NamedIsName
unfolding name_in
named_is_name base uri name named =
    ⊎_elim
    (λ inside. name_spelled-name (drop (length base) uri) name (sym (cond-true _ _ _ inside) ∙ named))
    (λ outside.
    let none : None ≡ Some name = sym (cond-false _ _ _ outside) ∙ named in
    cc)
    (cases_Bool (starts_with nat_eq uri base))
