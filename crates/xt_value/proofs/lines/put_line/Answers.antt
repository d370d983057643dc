use Rattle.std.proofs.Common.{◌∙◌, sym, string_bytes}
use Rattle.xt_value.proofs.LineLemmas.{line_whole, line_and_end}
use Rattle.xt_value.proofs.lines.put_line.Goals as goal

pub returns-then-is_empty-clause-value : goal.returns-then-is_empty-clause-value
returns-then-is_empty-clause-value c =
    line_whole (string_bytes c.args.out.now) (string_bytes c.push_str.new.self) c.args.text.now c.split_line.result.0.now c.split_line.result.1.now c.split_line.ensures.value c.in_ok-push_str.ensures.bytes

pub returns-clause-value : goal.returns-clause-value
unfolding lib.Utf8.encode
returns-clause-value c =
    line_and_end (string_bytes c.args.out.now) (string_bytes c.push_str.new.self) (string_bytes c.push.new.self) c.args.text.now c.split_line.result.0.now c.split_line.result.1.now c.behind_break.result.now c.split_line.ensures.value (sym c.is_empty.ensures ∙ c.if-is_empty.false) c.in_ok-push_str.ensures.bytes c.in_ok-push.ensures.bytes c.behind_break.ensures.value
