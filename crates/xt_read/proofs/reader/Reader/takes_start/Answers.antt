use Rattle.std.proofs.Common.{List, ℕ, subst, ap, lit<}
use Rattle.std.proofs.lemmas.Result.{on_ok_weaker}
use Rattle.xt_lex.specs.Kinds.{kind_of}
use Rattle.xt_lex.specs.declared.token.Span.{Span}
use Rattle.xt_tree.specs.Meaning.{at_span}
use Rattle.xt_read.specs.Progress.{Gives, names_at, all_marks, state_of}
use Rattle.xt_read.specs.Run.{start_tok}
use Rattle.xt_read.proofs.TokenSteps.{start_ahead, start_tok_is, takes_by, tag_placed, cut_behind}
use Rattle.xt_read.proofs.TagShapes.{tag_shaped}
use Rattle.xt_read.proofs.reader.Reader.takes_start.Goals as goal

pub read_tag-requires-clause-ahead : goal.read_tag-requires-clause-ahead
read_tag-requires-clause-ahead c = start_ahead c.args.text.now c.args.token c.requires.token (ap kind_of c.requires.kind)

pub read_tag-requires-clause-boundary : goal.read_tag-requires-clause-boundary
read_tag-requires-clause-boundary c =
    let a = start_ahead c.args.text.now c.args.token c.requires.token (ap kind_of c.requires.kind) in
    cut_behind c.args.text.now c.args.token.span.from 0x3C _ c.utf8.text (lit< tt) a.stands

pub returns-in-Ok-clause-value : goal.returns-in-Ok-clause-value
returns-in-Ok-clause-value c =
    let text = c.args.text.now in let head = c.in-Ok.head in
    takes_by text c.args.token (state_of text c.args.self.now) (state_of text c.opens.new.self) (start_tok (at_span text head.span) (at_span text head.name) (names_at text head.attrs)) c.opens.result
    (start_tok_is text c.args.token head c.requires.token (ap kind_of c.requires.kind) c.in-Ok.ensures.value.0 c.in-Ok.ensures.kind c.in-Ok.ensures.value.1) (subst (λ (bs : List ℕ). Gives (state_of bs c.args.self.now) (start_tok (at_span bs head.span) (at_span bs head.name) (names_at bs head.attrs)) c.opens.result (state_of bs c.opens.new.self)) c.as_bytes.ensures.value c.opens.ensures.value)

pub returns-in-Ok-clause-place : goal.returns-in-Ok-clause-place
returns-in-Ok-clause-place c = on_ok_weaker c.opens.result (λ is from placed.
    tag_placed c.args.text.now from c.args.token.span.from c.args.token.span.to (all_marks c.args.self.now) (all_marks c.opens.new.self) c.in-Ok.head placed c.in-Ok.ensures.value.1 (ap (λ (s : Span). s.to) c.in-Ok.ensures.value.0) is) c.opens.ensures.marks

pub opens-requires-clause-shaped : goal.opens-requires-clause-shaped
opens-requires-clause-shaped c = tag_shaped c.args.text.now c.args.token.span.from c.in-Ok.head c.in-Ok.ensures.value.1
