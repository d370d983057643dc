use Rattle.xt_read.proofs.TagParts.{end_tag_has_name, end_tag_named}
use Rattle.xt_read.proofs.tags.read_end_name.Goals as goal

pub unreachable-requires : goal.unreachable-requires
unreachable-requires c = end_tag_has_name c.args.text.now c.args.span.from c.args.span.to c.requires.ahead c.in_default.ensures.none

pub returns : goal.returns
returns c = record { value = end_tag_named c.args.text.now c.args.span c.in-Some.name c.requires.ahead c.in-Some.ensures.from c.in-Some.ensures.only }
