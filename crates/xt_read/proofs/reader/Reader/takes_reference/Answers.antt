use Rattle.std.proofs.Common.{List, ℕ, subst, arith, ◌≤◌}
use Rattle.std.proofs.lemmas.Result.{on_ok_weaker}
use Rattle.xt_tree.specs.Meaning.{at_span}
use Rattle.xt_read.specs.Progress.{Gives, all_marks, state_of}
use Rattle.xt_read.specs.Run.{piece_tok, reference_piece}
use Rattle.xt_read.proofs.TokenSteps.{piece_is, takes_by, span_placed}
use Rattle.xt_read.proofs.reader.Reader.takes_reference.Goals as goal

pub returns-clause-value : goal.returns-clause-value
returns-clause-value c =
    let text = c.args.text.now in
    takes_by text c.args.token (state_of text c.args.self.now) (state_of text c.holds_reference.new.self) (piece_tok reference_piece (at_span text c.args.token.span)) c.holds_reference.result
    (piece_is text c.args.token reference_piece c.requires.token c.requires.kind) (subst (λ (bs : List ℕ). Gives (state_of bs c.args.self.now) (piece_tok reference_piece (at_span bs c.args.token.span)) c.holds_reference.result (state_of bs c.holds_reference.new.self)) c.as_bytes.ensures.value c.holds_reference.ensures.value)

pub returns-clause-place : goal.returns-clause-place
returns-clause-place c = let ordered : c.args.token.span.from ≤ c.args.token.span.to = omega (arith, c.requires.token.some) in on_ok_weaker c.holds_reference.result (λ is from placed.
    span_placed c.args.text.now from (all_marks c.args.self.now) (all_marks c.holds_reference.new.self) c.args.token.span placed ordered is) c.holds_reference.ensures.marks
