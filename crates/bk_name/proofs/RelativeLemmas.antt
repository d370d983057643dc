-- Relative references lead to their target.
use Rattle.std.proofs.Common.{◌≡◌, ℕ, true, false, not, ◌&&◌, ◌==◌, List, [], length, Some, None, sym, refl, ap, ◌∙◌, ⊎_elim, arith}
use Rattle.std.specs.Prelude.{Option, bytes_eq, nat_eq}
use Rattle.std.specs.Option.{option_eq}
use Rattle.std.proofs.lemmas.Bool.{cond-true, cond-false, cases_Bool, and_from, and_parts, and_left, and_right, true≢false, not-true}
use Rattle.std.proofs.lemmas.Bool.Decides.{nat_tests}
use Rattle.std.proofs.lemmas.Slice.Eq.{bytes_eq-Decides}
use Rattle.url.specs.Parts.{Parts, serialize, cannot_be_a_base, host_or_empty, IsValid}
use Rattle.url.specs.Host.{host_text}
use Rattle.url.specs.Canonical.{IsCanonical}
use Rattle.url.specs.Relative.{CanRelate, IsRelative}
use Rattle.bk_name.specs.Uri.{url_of, joined}
use Rattle.bk_name.specs.Relative.{can_relate, relative_between, text_between, leads_to, if_leads, relative_of}
use Rattle.bk_name.proofs.UriLemmas.{url_of-serialize}

same_port : (x y : Option ℕ) → (option_eq nat_eq x y ≡ true → x ≡ y) × (x ≡ y → option_eq nat_eq x y ≡ true)
same_port None None = (λ _. refl, λ _. refl)
same_port None (Some y) = (λ e. absurd (true≢false (sym e)), λ e. cc)
same_port (Some x) None = (λ e. absurd (true≢false (sym e)), λ e. cc)
same_port (Some x) (Some y) = (λ e. ap Some (grind (arith, nat_tests)), λ e. grind (arith, nat_tests))

can_relate-true : (p b : Parts) → CanRelate p b → can_relate p b ≡ true
can_relate-true p b can =
    and_from _ _ (and_from _ _ (and_from _ _ (ap not can.0) ((bytes_eq-Decides p.scheme b.scheme).1 can.1.0)) ((bytes_eq-Decides (host_text (host_or_empty p)) (host_text (host_or_empty b))).1 can.1.1)) ((same_port p.port b.port).1 can.1.2)

can_relate-false : (p b : Parts) → ¬ (CanRelate p b) → can_relate p b ≡ false
can_relate-false p b cannot =
    ⊎_elim
    (λ can.
    let ports = and_parts (not (cannot_be_a_base p) && bytes_eq p.scheme b.scheme && bytes_eq (host_text (host_or_empty p)) (host_text (host_or_empty b))) (option_eq nat_eq p.port b.port) can in
    let hosts = and_parts (not (cannot_be_a_base p) && bytes_eq p.scheme b.scheme) (bytes_eq (host_text (host_or_empty p)) (host_text (host_or_empty b))) ports.0 in
    let schemes = and_parts (not (cannot_be_a_base p)) (bytes_eq p.scheme b.scheme) hosts.0 in
    absurd (cannot (not-true _ schemes.0, ((bytes_eq-Decides p.scheme b.scheme).0 schemes.1, (bytes_eq-Decides (host_text (host_or_empty p)) (host_text (host_or_empty b))).0 hosts.1, (same_port p.port b.port).0 ports.1))))
    (λ none. none)
    (cases_Bool (can_relate p b))

module _ (p b : Parts) (valid_p : IsValid p) (canonical_p : IsCanonical p) (valid_b : IsValid b) (canonical_b : IsCanonical b) where
  between-at : relative_between (url_of (serialize p)) (url_of (serialize b)) ≡ relative_between (Some p) (Some b)
  between-at = λ i. relative_between (url_of-serialize p valid_p canonical_p i) (url_of-serialize b valid_b canonical_b i)

  pub between-some : (text : List ℕ) → IsRelative p b (Some text) → text ≡ text_between (serialize p) (serialize b)
  between-some text is = is.1 ∙ sym (between-at ∙ cond-true _ _ _ (can_relate-true p b is.0))

  pub between-none : IsRelative p b None → [] ≡ text_between (serialize p) (serialize b)
  between-none cannot = sym (between-at ∙ cond-false _ _ _ (can_relate-false p b cannot))

found : (o : Option (List ℕ)) (x : List ℕ) → option_eq bytes_eq o (Some x) ≡ true → o ≡ Some x
found None x e = absurd (true≢false (sym e))
found (Some y) x e = ap Some ((bytes_eq-Decides y x).0 e)

module _ (p b text : List ℕ) (is : text ≡ text_between p b) where
  pub relative_of-leads : not (length text == 0) ≡ true → leads_to p text b ≡ true → text ≡ relative_of p b
  unfolding relative_of
  relative_of-leads some leads = sym (ap (λ t. if_leads p t b) (sym is) ∙ cond-true _ _ _ (and_from _ _ some leads))

  pub relative_of-empty : not (length text == 0) ≡ false → b ≡ relative_of p b
  unfolding relative_of
  relative_of-empty none = sym (ap (λ t. if_leads p t b) (sym is) ∙ cond-false _ _ _ (and_left _ _ none))

  pub relative_of-stray : leads_to p text b ≡ false → b ≡ relative_of p b
  unfolding relative_of
  relative_of-stray stray = sym (ap (λ t. if_leads p t b) (sym is) ∙ cond-false _ _ _ (and_right _ _ stray))

-- whichever text it is, it leads to b
pub joined-relative_of : (p b : List ℕ) → joined p b ≡ Some b → joined p (relative_of p b) ≡ Some b
unfolding relative_of
joined-relative_of p b target =
    let text = text_between p b in
    ⊎_elim
    (λ leads. ap (joined p) (cond-true _ _ _ leads) ∙ found _ b (and_parts (not (length text == 0)) (leads_to p text b) leads).1)
    (λ other. ap (joined p) (cond-false _ _ _ other) ∙ target)
    (cases_Bool (not (length text == 0) && leads_to p text b))
