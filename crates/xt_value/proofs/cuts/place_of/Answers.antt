use Rattle.memchr.specs.Find.{is_byte}
use Rattle.xt_value.proofs.Searches.{place_of_text}
use Rattle.xt_value.proofs.cuts.place_of.Goals as goal

pub returns : goal.returns
returns c = record { value = place_of_text (is_byte c.args.b) c.args.text.now c.as_bytes.result.now c.memchr.result c.unwrap_or.result c.as_bytes.ensures.value c.memchr.ensures c.unwrap_or.ensures }
