use Rattle.memchr.specs.Find.{is_byte2}
use Rattle.xt_value.proofs.Searches.{place_of_text}
use Rattle.xt_value.proofs.cuts.place_of_either.Goals as goal

pub returns : goal.returns
returns c = record { value = place_of_text (is_byte2 c.args.a c.args.b) c.args.text.now c.as_bytes.result.now c.memchr2.result c.unwrap_or.result c.as_bytes.ensures.value c.memchr2.ensures c.unwrap_or.ensures }
