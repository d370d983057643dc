use Rattle.std.proofs.Common.{◌∙◌, ap}
use Rattle.xt_tree.specs.Items.{item_in}
use Rattle.xt_tree.specs.Meaning.{item_of}
use Rattle.xt_tree.proofs.Theorems.{text_is}
use Rattle.ed_session.proofs.KindLemmas.{no_text}
use Rattle.ed_session.proofs.edit.text_span.Goals as goal

pub returns-in-Text : goal.returns-in-Text
returns-in-Text c = record { value = λ bytes. ap (item_of bytes) (ap item_in c.in-Text.is) ∙ text_is bytes c.in-Text.span }

pub returns-in_default : goal.returns-in_default
returns-in_default c = record { value = λ bytes. no_text bytes c.args.item.now c.in_default.not-Text }
