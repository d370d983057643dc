use Rattle.std.proofs.Common.{◌+◌, List, ℕ, sym, subst, arith}
use Rattle.xt_spec.specs.Limit.{most_script_bytes}
use Rattle.bk_run.specs.Input.{IsInput}
use Rattle.book_cli.specs.Ends.{output}
use Rattle.book_cli.proofs.InputLemmas.{none_left}
use Rattle.book_cli.proofs.run.run_root.Goals as goal

pub returns-in-Ok-clause-output : goal.returns-in-Ok-clause-output
returns-in-Ok-clause-output g c = λ h left told.
    let after = g.S.Source.left c.read_input.new.source in
    let is = c.in-Ok.ensures.value left told in
    output (c.run_script.ensures.output h left after (subst (λ (l : List ℕ). IsInput (most_script_bytes + 1) left after l) (sym c.deref.ensures.value) is))

pub returns-in-Ok-clause-none : goal.returns-in-Ok-clause-none
returns-in-Ok-clause-none g c = λ left told ends.
    let after = g.S.Source.left c.read_input.new.source in
    let is = c.in-Ok.ensures.value left told in
    let fits = c.run_script.ensures.only ends in
    none_left (most_script_bytes + 1) left c.deref.result.now after (subst (λ (l : List ℕ). IsInput (most_script_bytes + 1) left after l) (sym c.deref.ensures.value) is) (omega (arith, fits))

pub returns-in-Ok-clause-exact : goal.returns-in-Ok-clause-exact
returns-in-Ok-clause-exact g c = λ h left told.
    let after = g.S.Source.left c.read_input.new.source in
    let is = c.in-Ok.ensures.value left told in
    c.run_script.ensures.exact h left after (subst (λ (l : List ℕ). IsInput (most_script_bytes + 1) left after l) (sym c.deref.ensures.value) is)
