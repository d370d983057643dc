use Rattle.std.proofs.Common.{◌∙◌, sym, ap, Some}
use Rattle.xt_spec.specs.Tree.{Item}
use Rattle.xt_tree.specs.Items.{item_in}
use Rattle.xt_tree.specs.Meaning.{item_of}
use Rattle.ed_session.proofs.edit.text_span_at.Goals as goal

pub returns-in-Some-text_span-clause-value : goal.returns-in-Some-text_span-clause-value
returns-in-Some-text_span-clause-value c bytes = sym (c.in-Some.ensures.value bytes) ∙ ap (λ (item : Item). Some item) (c.in-Some-text_span.ensures.value bytes)

pub returns-in-None-text_span-clause-fault : goal.returns-in-None-text_span-clause-fault
returns-in-None-text_span-clause-fault c bytes = (item_of bytes (item_in c.in-Some.item), sym (c.in-Some.ensures.value bytes), c.in-None-text_span.ensures.value bytes)

pub returns-in-None-clause-fault : goal.returns-in-None-clause-fault
returns-in-None-clause-fault c bytes = sym (c.in-None.ensures.value bytes)
