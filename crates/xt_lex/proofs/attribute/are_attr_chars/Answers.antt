use Rattle.xt_lex.proofs.Sound.{attr_bytes_value}
use Rattle.xt_lex.proofs.attribute.are_attr_chars.Goals as goal

pub returns-then-are_attr_bytes : goal.returns-then-are_attr_bytes
returns-then-are_attr_bytes c = attr_bytes_value c.args.text.now c.as_bytes.result.now c.are_attr_bytes.result c.utf8.text c.as_bytes.ensures.value c.are_attr_bytes.ensures c.if-are_attr_bytes.true
