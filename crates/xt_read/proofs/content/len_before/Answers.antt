use Rattle.xt_lex.proofs.Theorems.{byte_len}
use Rattle.xt_read.proofs.content.len_before.Goals as goal

pub returns : goal.returns
returns c = byte_len c.args.byte c.args.bytes.now c.memchr.result c.unwrap_or.result c.memchr.ensures c.unwrap_or.ensures
