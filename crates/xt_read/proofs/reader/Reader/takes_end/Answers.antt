use Rattle.std.proofs.Common.{List, ℕ, subst, ◌∙◌, ap, lit<, ◌++◌, arith, ◌≤◌}
use Rattle.std.proofs.lemmas.Result.{on_ok_weaker}
use Rattle.xt_lex.specs.Kinds.{kind_of}
use Rattle.xt_tree.specs.Meaning.{at_span}
use Rattle.xt_read.specs.Progress.{Gives, all_marks, state_of}
use Rattle.xt_read.specs.Run.{end_tok}
use Rattle.xt_read.proofs.TokenSteps.{end_ahead, end_tok_is, takes_by, span_placed, cut_behind_two}
use Rattle.xt_read.proofs.reader.Reader.takes_end.Goals as goal

pub read_end_name-name-requires-clause-ahead : goal.read_end_name-name-requires-clause-ahead
read_end_name-name-requires-clause-ahead c = end_ahead c.args.text.now c.args.token c.requires.token (ap kind_of c.requires.kind)

pub read_end_name-name-requires-clause-boundary : goal.read_end_name-name-requires-clause-boundary
read_end_name-name-requires-clause-boundary c =
    let a = end_ahead c.args.text.now c.args.token c.requires.token (ap kind_of c.requires.kind) in
    cut_behind_two c.args.text.now c.args.token.span.from 0x3C 0x2F _ c.utf8.text (lit< tt) (a.stands ∙ ap (λ t. t ++ a.rest) a.spelled.2)

pub returns-clause-value : goal.returns-clause-value
returns-clause-value c =
    let text = c.args.text.now in
    takes_by text c.args.token (state_of text c.args.self.now) (state_of text c.closes.new.self) (end_tok (at_span text c.args.token.span) (at_span text c.read_end_name-name.result)) c.closes.result
    (end_tok_is text c.args.token c.read_end_name-name.result c.requires.token (ap kind_of c.requires.kind) c.read_end_name-name.ensures.value) (subst (λ (bs : List ℕ). Gives (state_of bs c.args.self.now) (end_tok (at_span bs c.args.token.span) (at_span bs c.read_end_name-name.result)) c.closes.result (state_of bs c.closes.new.self)) c.as_bytes.ensures.value c.closes.ensures.value)

pub returns-clause-place : goal.returns-clause-place
returns-clause-place c = let ordered : c.args.token.span.from ≤ c.args.token.span.to = omega (arith, c.requires.token.some) in on_ok_weaker c.closes.result (λ is from placed.
    span_placed c.args.text.now from (all_marks c.args.self.now) (all_marks c.closes.new.self) c.args.token.span placed ordered is) c.closes.ensures.marks
