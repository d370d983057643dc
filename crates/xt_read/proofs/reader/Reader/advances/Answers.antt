use Rattle.std.proofs.Common.{refl, inl, length, arith, ap}
use Rattle.std.proofs.lemmas.List.{length-drop}
use Rattle.xt_read.proofs.reader.Reader.advances.Goals as goal

pub returns-in_default-clause-fault : goal.returns-in_default-clause-fault
returns-in_default-clause-fault c = (
  refl,
  inl ((λ none. omega (arith, length-drop c.args.at c.args.text.now, c.requires.within, ap length none)), c.in_default.ensures.fault),
)
