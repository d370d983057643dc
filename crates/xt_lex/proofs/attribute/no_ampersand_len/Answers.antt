use Rattle.xt_lex.proofs.Runs.{byte_len}
use Rattle.xt_lex.proofs.attribute.no_ampersand_len.Goals as goal

pub returns : goal.returns
returns c = byte_len 38 c.args.bytes.now c.memchr.result c.unwrap_or.result c.memchr.ensures c.unwrap_or.ensures
