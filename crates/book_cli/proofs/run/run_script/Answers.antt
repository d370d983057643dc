use Rattle.std.proofs.Common.{List, map, sym, subst}
use Rattle.bk_script.specs.declared.command.Command.{Command}
use Rattle.bk_script.specs.Script.{IsScript}
use Rattle.bk_script.specs.View.{command_of}
use Rattle.book_cli.proofs.InputLemmas.{input_script, some_input_fault, fault_run, no_steps, not_recovered, four_recovers_none}
use Rattle.book_cli.proofs.run.run_script.Goals as goal

pub returns-in-Ok-clause-output : goal.returns-in-Ok-clause-output
returns-in-Ok-clause-output g c = λ h left after is.
    let reads = input_script left c.args.bytes.now after (map command_of c.in-Ok.commands.items) is c.in-Ok.ensures.value in
    c.run_book.ensures.output h left (subst (λ (l : List Command). IsScript left (map command_of l)) (sym c.deref.ensures.value) reads)

pub returns-in-Ok-clause-exact : goal.returns-in-Ok-clause-exact
returns-in-Ok-clause-exact g c = λ h left after is.
    let reads = input_script left c.args.bytes.now after (map command_of c.in-Ok.commands.items) is c.in-Ok.ensures.value in
    c.run_book.ensures.exact h left (subst (λ (l : List Command). IsScript left (map command_of l)) (sym c.deref.ensures.value) reads)

pub returns-in-Err-clause-output : goal.returns-in-Err-clause-output
returns-in-Err-clause-output g c = λ h left after is.
    fault_run g.D.Desk.standing g.D.Desk.time g.D.Desk.was c.args.root.now left c.in-Err.fault c.args.desk.now c.tell_script_fault.new.desk c.tell_script_fault.result (λ crash since. g.met.D.Desk.only_now c.args.desk.now crash h since)
    (some_input_fault left c.args.bytes.now after _ is c.in-Err.ensures.fault) c.tell_script_fault.ensures.same (c.tell_script_fault.ensures.output h)

pub returns-in-Err-clause-exact : goal.returns-in-Err-clause-exact
returns-in-Err-clause-exact g c = λ h left after is.
    no_steps _ left _ c.tell_script_fault.result c.args.steps.now (not_recovered c.tell_script_fault.result 4 four_recovers_none c.tell_script_fault.ensures.value)
