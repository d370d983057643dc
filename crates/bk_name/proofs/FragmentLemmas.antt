-- A URL without its fragment is a URL in the form that the parser gives.
use Rattle.std.proofs.Common.{◌≡◌, ◌≢◌, ℕ, ◌+◌, ◌-◌, false, List, [], ◌∷◌, ◌++◌, length, get_or, take, Some, None, All, sym, refl, ap, ◌∙◌, subst, append-nil, arith, length-append}
use Rattle.std.specs.Prelude.{Option, IfSome, slice_index, is_some}
use Rattle.std.specs.Borrow.{Bor}
use Rattle.std.specs.Option.{option_copied}
use Rattle.std.specs.List.{concat}
use Rattle.std.proofs.Math.Seq.{get_or-append_right}
use Rattle.std.proofs.lemmas.Bool.Decides.{nat_tests}
use Rattle.std.proofs.lemmas.Bool.{true≢false}
use Rattle.std.proofs.lemmas.List.Elements.{All-nil, All-cons, All-weaker, All-get_or}
use Rattle.percent_encoding.specs.Percent.{IsKept}
use Rattle.url.specs.declared.sets.TheConstants.{PATH, QUERY, SPECIAL_QUERY}
use Rattle.url.specs.declared.scheme.SchemeType.{SchemeType}
use Rattle.url.specs.declared.scheme.SchemeType.TheVariants.{File, SpecialNotFile, NotSpecial}
use Rattle.url.specs.declared.slicing.Position.TheVariants.{BeforeScheme, AfterQuery}
use Rattle.url.specs.Path.{ends_in_space}
use Rattle.url.specs.Parts.{Parts, kind_of, query_set, pieces, serialize, text_between, IsValid}
use Rattle.url.specs.Canonical.{EndsVisibly, IsCanonical, IsCanonicalAs}
use Rattle.url.proofs.InputLemmas.{IsNot}
use Rattle.url.proofs.LayoutLemmas.{IsValidHead_same}
use Rattle.url.proofs.PiecesLemmas.{concat-split}
use Rattle.url.proofs.RoundTrip.{ends_visibly}
use Rattle.url.proofs.SetLemmas.{kept_differs}
use Rattle.bk_name.specs.Uri.{IsUriUrl, IsUri, cut, without_fragment}
use Rattle.bk_name.proofs.UriLemmas.{url_of-serialize}

pub cut-valid : (url : Parts) → IsValid url → IsValid (cut url)
cut-valid url valid = record {
  head = IsValidHead_same url (cut url) refl valid.head;
  path = valid.path;
  query = valid.query;
  fragment = tt;
}

-- ---- the last byte

last_behind : (xs ys : List ℕ) (y : ℕ) → get_or (xs ++ y ∷ ys) (length (xs ++ y ∷ ys) - 1) 0 ≡ get_or (y ∷ ys) (length ys) 0
last_behind xs ys y =
    let long = length-append xs (y ∷ ys) in
    let place : length (xs ++ y ∷ ys) - 1 ≡ length xs + length ys = omega (arith, long) in
    let back : length (xs ++ y ∷ ys) - 1 - length xs ≡ length ys = omega (arith, place) in
    get_or-append_right xs (y ∷ ys) (length (xs ++ y ∷ ys) - 1) 0 (omega (arith, place)) ∙ ap (λ i. get_or (y ∷ ys) i 0) back

ends_other : (text xs ys : List ℕ) (y : ℕ) → text ≡ xs ++ y ∷ ys → get_or (y ∷ ys) (length ys) 0 ≢ 32 → slice_index text (length text - 1) ≢ 32
ends_other text xs ys y is other same =
    let end : get_or (xs ++ y ∷ ys) (length (xs ++ y ∷ ys) - 1) 0 ≡ 32 = rw (← is) same in
    other (sym (last_behind xs ys y) ∙ end)

query_no_space : (kind : SchemeType) (q : List ℕ) → All (IsKept (query_set kind)) q → All (IsNot 32) q
query_no_space File q kept = All-weaker (IsKept SPECIAL_QUERY) (IsNot 32) (kept_differs SPECIAL_QUERY 32 refl) q kept
query_no_space SpecialNotFile q kept = All-weaker (IsKept SPECIAL_QUERY) (IsNot 32) (kept_differs SPECIAL_QUERY 32 refl) q kept
query_no_space NotSpecial q kept = All-weaker (IsKept QUERY) (IsNot 32) (kept_differs QUERY 32 refl) q kept

visible_with_query : (url : Parts) (q : List ℕ) → url.query ≡ Some q → url.fragment ≡ None → IsValid url → EndsVisibly url
visible_with_query url q query fragment valid =
    let text : serialize url ≡ concat (take 11 (pieces url)) ++ 63 ∷ q =
    concat-split (pieces url) 11 ∙ ap (λ l. concat (take 11 (pieces url)) ++ l) (rw (query, fragment) (ap (λ l. 63 ∷ l) (append-nil q))) in
    let kept : All (IsKept (query_set (kind_of url))) q = subst (λ o. IfSome o (All (IsKept (query_set (kind_of url))))) query valid.query in
    let all = All-cons (IsNot 32) 63 q (omega arith) (query_no_space (kind_of url) q kept) in
    ends_other (serialize url) (concat (take 11 (pieces url))) q 63 text (All-get_or (IsNot 32) (63 ∷ q) (length q) 0 (omega arith) all)

visible_without_query : (url : Parts) (path : List ℕ) → url.path ≡ path → url.query ≡ None → url.fragment ≡ None → IsValid url → ends_in_space path ≡ false → EndsVisibly url
visible_without_query url [] is query fragment valid ends = ends_visibly url valid (subst (All (IsKept PATH)) (sym is) (All-nil (IsKept PATH)))
visible_without_query url (x ∷ path) is query fragment valid ends =
    let text : serialize url ≡ concat (take 10 (pieces url)) ++ x ∷ path =
    concat-split (pieces url) 10 ∙ ap (λ l. concat (take 10 (pieces url)) ++ l) (rw (query, fragment, is) (append-nil (x ∷ path))) in
    ends_other (serialize url) (concat (take 10 (pieces url))) path x text (λ same. absurd (grind (arith, nat_tests)))

cut_visible : (url : Parts) (query : Option (List ℕ)) → url.query ≡ query → IsValid url → ends_in_space url.path ≡ false → EndsVisibly (cut url)
cut_visible url None query valid ends = visible_without_query (cut url) url.path refl query refl (cut-valid url valid) ends
cut_visible url (Some q) query valid ends = visible_with_query (cut url) q query refl (cut-valid url valid)

cut_as : (kind : SchemeType) (url : Parts) → IsValid url → IsCanonicalAs kind url → IsCanonicalAs kind (cut url)
cut_as File url valid canonical = record { host = canonical.host; drive = canonical.drive }
cut_as SpecialNotFile url valid canonical = tt
cut_as NotSpecial url valid canonical = (canonical.0, cut_visible url url.query refl valid canonical.2, canonical.2)

pub cut-canonical : (url : Parts) → IsValid url → IsCanonical url → IsCanonical (cut url)
cut-canonical url valid canonical = cut_as (kind_of url) url valid canonical

-- ---- the text

pub serialize-cut : (url : Parts) → text_between url BeforeScheme AfterQuery ≡ serialize (cut url)
serialize-cut url = refl

pub without_fragment-serialize : (url : Parts) → IsUriUrl url → without_fragment (serialize url) ≡ serialize (cut url)
unfolding without_fragment
without_fragment-serialize url is = rw (url_of-serialize url is.valid is.canonical) refl

-- a URL without a fragment stays
pub without_fragment-none : (url : Parts) → IsUriUrl url → url.fragment ≡ None → without_fragment (serialize url) ≡ serialize url
without_fragment-none url is none =
    without_fragment-serialize url is ∙ ap (λ f. serialize (record url { fragment = f })) (sym none)

-- the text up to the fragment is a URI
pub IsUri-cut : (url : Parts) → IsUriUrl url → IsUri (text_between url BeforeScheme AfterQuery)
IsUri-cut url is = record {
  url = cut url;
  is = record { valid = cut-valid url is.valid; canonical = cut-canonical url is.valid is.canonical };
  spelled = sym (serialize-cut url);
}

-- what a slice that isn't there stands for
pub option_copied-none : (o : Option (Bor (List ℕ))) → is_some o ≡ false → option_copied o ≡ None
option_copied-none None none = refl
option_copied-none (Some x) none = absurd (true≢false none)
