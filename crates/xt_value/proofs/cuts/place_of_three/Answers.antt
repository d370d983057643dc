use Rattle.memchr.specs.Find.{is_byte3}
use Rattle.xt_value.proofs.Searches.{place_of_text}
use Rattle.xt_value.proofs.cuts.place_of_three.Goals as goal

pub returns : goal.returns
returns c = record { value = place_of_text (is_byte3 c.args.a c.args.b c.args.c) c.args.text.now c.as_bytes.result.now c.memchr3.result c.unwrap_or.result c.as_bytes.ensures.value c.memchr3.ensures c.unwrap_or.ensures }
