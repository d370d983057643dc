use Rattle.std.proofs.Common.{◌≡◌, ◌≢◌, ◌∙◌, ◌++◌, List, ℕ, codes, Option, Bor, MatchOption, subst}
use Rattle.std.proofs.lemmas.Slice.Eq.{strip_prefix_is}
use Rattle.std.proofs.lemmas.Bool.Decides.{Decides-eqb}
use Rattle.ed_session.proofs.VoidLemmas.{void_behind}
use Rattle.ed_session.proofs.place.is_void.Goals as goal

pub loop-behind-preserved : goal.loop-behind-preserved
loop-behind-preserved c =
    let rest = c.loop-behind.rest.now in
    let found = strip_prefix_is Decides-eqb rest (codes "<![CDATA[]]>") c.strip_prefix.result c.strip_prefix.ensures.cases in
    let here = subst (λ (r : Option (Bor (List ℕ))). MatchOption r ((l : List ℕ) → rest ≢ codes "<![CDATA[]]>" ++ l) (λ x. rest ≡ codes "<![CDATA[]]>" ++ x.now)) c.in-Some.is found in
    c.loop-behind.invariant ∙ void_behind rest c.in-Some.behind.now here
