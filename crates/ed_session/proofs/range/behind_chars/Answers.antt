use Rattle.std.proofs.Common.{◌≡◌, ℕ, arith, subst}
use Rattle.ed_session.specs.Ranges.{IsCut}
use Rattle.ed_session.proofs.RangeLemmas.{cut_nothing, cut_next}
use Rattle.ed_session.proofs.range.behind_chars.Goals as goal

pub loop-passed-init : goal.loop-passed-init
loop-passed-init c = (c.utf8.text, cut_nothing c.args.text.now c.utf8.text, omega arith)

pub loop-passed-preserved : goal.loop-passed-preserved
loop-passed-preserved c =
    let at = c.in_ok-rest.ensures.value in
    (at.4, cut_next c.args.text.now c.loop-passed.rest.now c.in_ok-rest.rest.now c.loop-passed.passed at.0 c.loop-passed.invariant.1 at.1 at.2 at.3 at.4, omega arith)

pub returns : goal.returns
returns c =
    let same : c.loop-passed.passed ≡ c.args.count = let most = c.loop-passed.invariant.2 in omega arith in
    record { value = subst (λ (n : ℕ). IsCut c.args.text.now n c.loop-passed.rest.now) same c.loop-passed.invariant.1 }
