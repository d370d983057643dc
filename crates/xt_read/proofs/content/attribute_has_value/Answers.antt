use Rattle.xt_read.proofs.TagValues.{attribute_value}
use Rattle.xt_read.proofs.content.attribute_has_value.Goals as goal

pub returns : goal.returns
returns c = λ a is. attribute_value c.args.text.now c.args.attr a c.unquoted.result.now c.stands_for_characters.result is c.unquoted.ensures c.stands_for_characters.ensures
