use Rattle.xt_read.proofs.TagValues.{start_cut, end_cut, unquoted_is}
use Rattle.xt_read.proofs.content.unquoted.Goals as goal

pub range-requires-clause-start_boundary : goal.range-requires-clause-start_boundary
range-requires-clause-start_boundary c = λ some. start_cut c.args.text.now c.args.span c.utf8.text c.requires.quoted c.requires.within

pub range-requires-clause-end_boundary : goal.range-requires-clause-end_boundary
range-requires-clause-end_boundary c = end_cut c.args.text.now c.args.span c.requires.quoted c.requires.within

pub returns : goal.returns
returns c = unquoted_is c.args.text.now c.args.span c.range.result.now c.requires.quoted c.requires.within c.range.ensures.value
