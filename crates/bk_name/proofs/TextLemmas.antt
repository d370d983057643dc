-- Laws on the texts of URIs.
use Rattle.std.proofs.Common.{◌≡◌, ℕ, List, Some, None, Ok, Err, sym, ap, ◌∙◌, subst}
use Rattle.url.specs.Parts.{Parts, serialize}
use Rattle.url.specs.Canonical.{IsCanonical}
use Rattle.url.specs.Parser.{parse_url}
use Rattle.url.proofs.Theorems.{parse_url-serialize}
use Rattle.bk_name.specs.Uri.{ReadsBack, IsUri, joined}
use Rattle.bk_name.specs.Relative.{relative_of}
use Rattle.bk_name.proofs.UriLemmas.{uri_from_canonical, joined-own}
use Rattle.bk_name.proofs.RelativeLemmas.{joined-relative_of}

-- `url` reads a URI back as itself
pub ReadsBack-uri : (text : List ℕ) → IsUri text → ReadsBack text
ReadsBack-uri text uri = subst ReadsBack uri.spelled (uri_from_canonical uri.url uri.is.valid uri.is.canonical)

-- a URI joined to another is itself
pub joined-uri : (p b : List ℕ) → IsUri p → IsUri b → joined p b ≡ Some b
joined-uri p b base target =
    (λ i. joined (sym base.spelled i) (sym target.spelled i)) ∙ joined-own base.url target.url base.is.valid base.is.canonical target.is.valid target.is.canonical
    ∙ ap Some target.spelled

-- the relative reference leads from p to b
pub joined-relative_uri : (p b : List ℕ) → IsUri p → IsUri b → joined p (relative_of p b) ≡ Some b
joined-relative_uri p b base target = joined-relative_of p b (joined-uri p b base target)

-- ---- what the parser gives for the text of a URI

module _ (text : List ℕ) (uri : IsUri text) where
  parsed : parse_url None text ≡ Ok uri.url
  parsed = ap (parse_url None) (sym uri.spelled) ∙ parse_url-serialize uri.url None uri.is.valid uri.is.canonical

  parsed_is : (url : Parts) → parse_url None text ≡ Ok url → url ≡ uri.url
  parsed_is url given =
      let own = parsed in
      cc

  pub parsed-canonical : (url : Parts) → parse_url None text ≡ Ok url → IsCanonical url
  parsed-canonical url given = subst IsCanonical (sym (parsed_is url given)) uri.is.canonical

  pub serialize-parsed : (url : Parts) → parse_url None text ≡ Ok url → serialize url ≡ text
  serialize-parsed url given = ap serialize (parsed_is url given) ∙ uri.spelled

  -- the parser doesn't refuse it
  pub parsed-not_refused : (e : _) → parse_url None text ≡ Err e → ⊥
  parsed-not_refused e refused =
      let own = parsed in
      cc
