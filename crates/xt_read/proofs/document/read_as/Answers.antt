use Rattle.std.proofs.Common.{◌≡◌, List, ℕ, subst}
use Rattle.std.proofs.lemmas.Result.{IfOk-weaker, IfErr-weaker}
use Rattle.xt_spec.specs.Tree.{source_text}
use Rattle.xt_spec.specs.Reading.{IsOrdered}
use Rattle.xt_tree.specs.Meaning.{items_in}
use Rattle.xt_read.specs.Front.{role_of}
use Rattle.xt_read.specs.Faults.{reading_fault}
use Rattle.xt_read.proofs.Runs.{IfSome-weaker}
use Rattle.xt_read.proofs.FrontPlaces.{file_fault}
use Rattle.xt_read.proofs.FirstFaults.{first_of}
use Rattle.xt_read.proofs.document.read_as.Goals as goal

pub returns-in-Ok-clause-value : goal.returns-in-Ok-clause-value
returns-in-Ok-clause-value c =
    let bytes = c.args.bytes.now in
    IfOk-weaker c.read_text_as.result _ _ (λ items is. record {
      utf8 = c.in-Ok.ensures.1;
      joined = subst (λ (t : List ℕ). source_text (items_in t items) ≡ t) c.in-Ok.ensures.0 is.1;
      ordered = subst (λ (t : List ℕ). IsOrdered (role_of c.args.role) (items_in t items)) c.in-Ok.ensures.0 is.0;
    }) c.read_text_as.ensures.value

pub returns-in-Ok-clause-fault : goal.returns-in-Ok-clause-fault
returns-in-Ok-clause-fault c =
    let bytes = c.args.bytes.now in
    IfErr-weaker c.read_text_as.result _ _ (λ e is. IfSome-weaker (reading_fault e) _ _ (λ f fault. first_of c.args.role bytes f (file_fault c.args.role bytes c.in-Ok.text.now f c.in-Ok.ensures.0 c.in-Ok.ensures.1 fault)) is) c.read_text_as.ensures.fault
