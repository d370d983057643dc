use Rattle.std.proofs.Common.{List, ℕ, subst, ap, arith, ◌≤◌}
use Rattle.std.proofs.lemmas.Result.{on_ok_weaker}
use Rattle.xt_lex.specs.Kinds.{kind_of}
use Rattle.xt_tree.specs.Meaning.{at_span}
use Rattle.xt_read.specs.Progress.{Gives, state_of}
use Rattle.xt_read.specs.Run.{piece_tok, data_piece}
use Rattle.xt_read.proofs.TokenSteps.{piece_is, takes_by, text_placed, joins}
use Rattle.xt_read.proofs.reader.Reader.takes_data.Goals as goal

pub holds_data-requires : goal.holds_data-requires
holds_data-requires c = let ordered : c.args.token.span.from ≤ c.args.token.span.to = omega (arith, c.requires.token.some) in record { joins = joins c.args.text.now c.requires.place.0 c.args.self.now c.args.token.span c.requires.place.1 ordered; sound = c.requires.sound }

pub returns-clause-value : goal.returns-clause-value
returns-clause-value c =
    let text = c.args.text.now in
    takes_by text c.args.token (state_of text c.args.self.now) (state_of text c.holds_data.new.self) (piece_tok data_piece (at_span text c.args.token.span)) c.holds_data.result
    (piece_is text c.args.token data_piece c.requires.token (ap kind_of c.requires.kind)) (subst (λ (bs : List ℕ). Gives (state_of bs c.args.self.now) (piece_tok data_piece (at_span bs c.args.token.span)) c.holds_data.result (state_of bs c.holds_data.new.self)) c.as_bytes.ensures.value c.holds_data.ensures.value)

pub returns-clause-place : goal.returns-clause-place
returns-clause-place c = let ordered : c.args.token.span.from ≤ c.args.token.span.to = omega (arith, c.requires.token.some) in on_ok_weaker c.holds_data.result (λ is from placed.
    text_placed c.args.text.now from c.args.self.now c.holds_data.new.self c.args.token.span placed ordered is) c.holds_data.ensures.marks
