use Rattle.std.proofs.Common.{sym, ap, ◌∙◌}
use Rattle.bk_script.specs.Reading.{is_passed_over}
use Rattle.bk_script.proofs.Lines.{line_no_utf8, line_over, line_found}
use Rattle.bk_script.proofs.line.line_of.Goals as goal

pub returns-in_default : goal.returns-in_default
returns-in_default c = line_no_utf8 c.args.line.now c.in_default.ensures.0

pub returns-then-is_passed_over : goal.returns-then-is_passed_over
returns-then-is_passed_over c =
    let text = c.in-Ok.ensures in
    line_over c.args.line.now text.1 c.in-Ok.text.now text.0 (sym (ap is_passed_over c.after_blanks.ensures) ∙ sym c.is_passed_over.ensures ∙ c.if-is_passed_over.true)

pub returns : goal.returns
returns c =
    let text = c.in-Ok.ensures in
    line_found c.args.line.now text.1 c.in-Ok.text.now text.0 (sym (ap is_passed_over c.after_blanks.ensures) ∙ sym c.is_passed_over.ensures ∙ c.if-is_passed_over.false) _ c.in_ok-command.ensures
