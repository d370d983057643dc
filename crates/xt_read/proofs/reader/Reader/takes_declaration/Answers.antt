use Rattle.std.proofs.Common.{ap, refl}
use Rattle.xt_lex.specs.Kinds.{kind_of}
use Rattle.xt_tree.specs.Meaning.{at_span}
use Rattle.xt_read.specs.Run.{piece_tok, declaration_piece}
use Rattle.xt_read.proofs.TokenSteps.{piece_is}
use Rattle.xt_read.proofs.reader.Reader.takes_declaration.Goals as goal

pub returns-clause-value : goal.returns-clause-value
returns-clause-value c =
    (piece_tok declaration_piece (at_span c.args.text.now c.args.token.span), piece_is c.args.text.now c.args.token declaration_piece c.requires.token (ap kind_of c.requires.kind), refl, refl)
