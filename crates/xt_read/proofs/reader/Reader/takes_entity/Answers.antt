use Rattle.std.proofs.Common.{ℕ, List, subst, sym, ap, inr}
use Rattle.xt_spec.specs.Reference.{StandsFor}
use Rattle.xt_lex.specs.Kinds.{kind_of}
use Rattle.xt_tree.specs.Meaning.{at_span}
use Rattle.xt_read.proofs.TokenSteps.{other_is}
use Rattle.xt_read.proofs.reader.Reader.takes_entity.Goals as goal

pub takes_part-requires-clause-kind : goal.takes_part-requires-clause-kind
takes_part-requires-clause-kind c = inr (inr (ap kind_of c.requires.kind), c.in-Some.field-0, subst (λ (t : List ℕ). StandsFor t c.in-Some.field-0) c.range.ensures.value c.in-Some.ensures)

pub takes_reference-requires-clause-kind : goal.takes_reference-requires-clause-kind
takes_reference-requires-clause-kind c =
    (ap kind_of c.requires.kind, other_is (at_span c.args.text.now c.args.token.span) (λ d stands. c.in-None.ensures d (subst (λ (t : List ℕ). StandsFor t d) (sym c.range.ensures.value) stands)))
