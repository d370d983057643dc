use Rattle.std.proofs.Common.{ap, inl, inr, subst}
use Rattle.xt_spec.specs.Token.{Spells}
use Rattle.xt_lex.specs.Kinds.{kind_of}
use Rattle.xt_tree.specs.Meaning.{at_span}
use Rattle.xt_read.proofs.TokenSteps.{spelled_at}
use Rattle.xt_read.proofs.reader.Reader.takes.Goals as goal

pub takes_part-requires-clause-kind : goal.takes_part-requires-clause-kind
takes_part-requires-clause-kind c =
    let text = c.args.text.now in
    let (d, names) = subst (λ k. Spells k (at_span text c.args.token.span)) (ap kind_of c.in-CharRef.is) (spelled_at text c.args.token c.requires.token) in
    inr (inl (ap kind_of c.in-CharRef.is), d, inl names)
