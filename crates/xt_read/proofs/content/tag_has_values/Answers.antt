use Rattle.xt_tree.specs.Items.{head_in}
use Rattle.xt_read.proofs.TagValues.{tag_stand_all}
use Rattle.xt_read.proofs.content.tag_has_values.Goals as goal

pub attributes_have_values-requires : goal.attributes_have_values-requires
attributes_have_values-requires c = record { stand = (c.requires.tag.tag.attributes, tag_stand_all c.args.text.now (head_in c.args.head.now) c.requires.tag) }

pub returns : goal.returns
returns c = λ is. c.attributes_have_values.ensures is.tag.attributes (tag_stand_all c.args.text.now (head_in c.args.head.now) is)
