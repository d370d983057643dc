use Rattle.std.proofs.Common.{[], sym, map, arith}
use Rattle.std.proofs.lemmas.Result.{err_from_is_err_and}
use Rattle.bk_script.specs.Reading.{lines_of, lines_read}
use Rattle.bk_script.specs.View.{command_of}
use Rattle.bk_script.proofs.Lines.{ended_shrinks}
use Rattle.bk_script.proofs.Scripts.{lines_more, lines_last, lines_fail, last_fails}
use Rattle.bk_script.proofs.script.read_lines.Goals as goal

pub returns-in_err-add_line : goal.returns-in_err-add_line
returns-in_err-add_line c =
    let p = err_from_is_err_and c.from_residual.result c.from_residual.ensures.1 in
    rw (p.1, p.2) (lines_fail c.loop-line.number (map command_of c.loop-line.commands.items) c.loop-line.rest.now c.in-Some.line.now c.in-Some.after.now (lines_read 1 [] (lines_of c.args.bytes.now)) c.in_err-add_line.field-0.0 (sym c.in-Some.ensures) c.in_err-add_line.ensures c.loop-line.invariant.same)

pub loop-line-smaller : goal.loop-line-smaller
loop-line-smaller c = ended_shrinks c.loop-line.rest.now (c.in-Some.line.now, c.in-Some.after.now) (sym c.in-Some.ensures)

pub loop-line-preserved : goal.loop-line-preserved
loop-line-preserved c =
    let less = ended_shrinks c.loop-line.rest.now (c.in-Some.line.now, c.in-Some.after.now) (sym c.in-Some.ensures) in
    record {
      counted = omega (arith, c.loop-line.invariant.counted, less);
      same = lines_more c.loop-line.number (map command_of c.loop-line.commands.items) (map command_of c.add_line.new.commands.items) c.loop-line.rest.now c.in-Some.line.now c.in-Some.after.now (lines_read 1 [] (lines_of c.args.bytes.now)) (sym c.in-Some.ensures) c.in_ok-add_line.ensures c.loop-line.invariant.same;
    }

pub returns-in_err-add_line-2 : goal.returns-in_err-add_line-2
returns-in_err-add_line-2 c =
    let p = err_from_is_err_and c.from_residual-in_err-add_line-2.result c.from_residual-in_err-add_line-2.ensures.1 in
    rw (p.1, p.2) (last_fails c.loop-line.number (map command_of c.loop-line.commands.items) c.loop-line.rest.now (lines_read 1 [] (lines_of c.args.bytes.now)) c.in_err-add_line-2.field-0.0 (sym c.in_default.ensures) c.in_err-add_line-2.ensures c.loop-line.invariant.same)

pub returns : goal.returns
returns c = lines_last c.loop-line.number (map command_of c.loop-line.commands.items) (map command_of c.add_line-2.new.commands.items) c.loop-line.rest.now (lines_read 1 [] (lines_of c.args.bytes.now)) (sym c.in_default.ensures) c.in_ok-add_line-2.ensures c.loop-line.invariant.same
