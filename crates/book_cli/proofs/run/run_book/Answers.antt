use Rattle.std.proofs.Common.{ℕ, List, length, map, refl, sym, inl, inr, subst}
use Rattle.std.proofs.lemmas.List.{length-map}
use Rattle.bk_desk.specs.CrashPoints.{AtEachCrash}
use Rattle.jr_burst.specs.SavedFiles.{book_files}
use Rattle.jr_burst.specs.Recover.{IsStartOrRecovered}
use Rattle.bk_script.specs.View.{command_of}
use Rattle.std.specs.Prelude.{IsTrue}
use Rattle.ed_spec.specs.Session.{opened, DoesAll}
use Rattle.ed_session.specs.Start.{IsStarted, TakesSteps}
use Rattle.bk_run.specs.Counts.{all_steps}
use Rattle.book_cli.specs.Leaves.{recovers_book}
use Rattle.bk_run.proofs.Theorems.{told_stays}
use Rattle.bk_spec.specs.Fault.{fault_line}
use Rattle.bk_info.specs.Nodes.{fault_in}
use Rattle.book_cli.specs.Output.{closed}
use Rattle.book_cli.specs.Ends.{IsSessionRun}
use Rattle.book_cli.proofs.RunLemmas.{not_over, opened_run, closed_run, damaged_run, failed_run, early_steps, closed_steps, opened_steps}
use Rattle.book_cli.proofs.InputLemmas.{not_recovered, eight_recovers_none}
use Rattle.book_cli.proofs.run.run_book.Goals as goal

pub returns-in-Ok-clause-output : goal.returns-in-Ok-clause-output
returns-in-Ok-clause-output g c = λ h bytes reads.
    let old = g.D.Desk.standing c.args.desk.now in
    let mid = g.D.Desk.standing c.start.new.desk in
    let is = c.in-Ok.ensures.value h in
    let named = is.over.named in
    let commands = map command_of c.args.commands.now in
    opened_run g.D.Desk.standing g.D.Desk.time g.D.Desk.was c.args.root.now bytes commands c.args.desk.now c.start.new.desk c.run_session.new.desk c.run_session.result reads is.recovered (c.start.ensures.crash h)
    (subst (λ (r : List ℕ). IsSessionRun r commands mid (g.D.Desk.standing c.run_session.new.desk) (AtEachCrash g.D.Desk.time g.D.Desk.was c.start.new.desk c.run_session.new.desk) c.run_session.result) named
    (c.run_session.ensures.output h old (subst (λ (r : List ℕ). IsStarted r old mid c.in-Ok.session) (sym named) is)))

pub returns-in-Ok-clause-exact : goal.returns-in-Ok-clause-exact
returns-in-Ok-clause-exact g c = λ h bytes reads.
    let old = g.D.Desk.standing c.args.desk.now in
    let mid = g.D.Desk.standing c.start.new.desk in
    let is = c.in-Ok.ensures.value h in
    let named = is.over.named in
    opened_steps c.args.root.now bytes old.files (map command_of c.args.commands.now) reads (book_files mid.files) c.run_session.result c.args.steps.now c.start.new.steps c.run_session.new.steps (length c.args.commands.now) is.recovered.book
    ((c.in-Ok.ensures.exact h).exact tt) c.run_session.ensures.count.0 c.run_session.ensures.count.1 (sym (length-map c.args.commands.now command_of))
    (λ asked replies last asks does.
    subst (λ (r : List ℕ). TakesSteps (IsTrue (recovers_book c.run_session.result)) (all_steps r asked replies) c.start.new.steps c.run_session.new.steps) named
    (c.run_session.ensures.exact h old asked replies last (subst (λ (r : List ℕ). IsStarted r old mid c.in-Ok.session) (sym named) is) asks
    (subst (λ (r : List ℕ). DoesAll r (opened r (book_files mid.files)) asked replies last) (sym named) does)))

pub returns-in-Err-Desk-clause-exact : goal.returns-in-Err-Desk-clause-exact
returns-in-Err-Desk-clause-exact g c = λ h bytes reads.
    early_steps c.args.root.now bytes (g.D.Desk.standing c.args.desk.now).files (map command_of c.args.commands.now) reads _ 6 c.args.steps.now c.start.new.steps c.start.ensures.count.0 (not_over 6 (inl refl)) (c.start.ensures.exact h)

pub returns-in-Err-NoMemory-clause-exact : goal.returns-in-Err-NoMemory-clause-exact
returns-in-Err-NoMemory-clause-exact g c = λ h bytes reads.
    early_steps c.args.root.now bytes (g.D.Desk.standing c.args.desk.now).files (map command_of c.args.commands.now) reads _ 7 c.args.steps.now c.start.new.steps c.start.ensures.count.0 (not_over 7 (inr refl)) (c.start.ensures.exact h)

pub returns-in-Err-Journal-clause-exact : goal.returns-in-Err-Journal-clause-exact
returns-in-Err-Journal-clause-exact g c = λ h bytes reads.
    early_steps c.args.root.now bytes (g.D.Desk.standing c.args.desk.now).files (map command_of c.args.commands.now) reads _ c.tell.result c.args.steps.now c.start.new.steps c.start.ensures.count.0 (not_recovered c.tell.result 8 eight_recovers_none c.tell.ensures.value) (c.start.ensures.exact h)

pub returns-in-Err-Book-clause-exact : goal.returns-in-Err-Book-clause-exact
returns-in-Err-Book-clause-exact g c = λ h bytes reads.
    let is = rw c.in-Err-Book.field-0-is at (c.in-Err-Book.ensures.fault h) in
    let exact = rw c.in-Err-Book.field-0-is at (c.in-Err-Book.ensures.exact h) in
    closed_steps c.args.root.now bytes (g.D.Desk.standing c.args.desk.now).files (map command_of c.args.commands.now) reads (book_files (g.D.Desk.standing c.start.new.desk).files) (fault_in c.in-Err-Book.fault) c.tell_fault.result c.args.steps.now c.start.new.steps
    c.start.ensures.count.0 is.recovered.book is.cause (exact.exact tt)

pub returns-in-Err-Desk-clause-output : goal.returns-in-Err-Desk-clause-output
returns-in-Err-Desk-clause-output g c = λ h bytes reads.
    let start = g.D.Desk.standing c.args.desk.now in
    failed_run g.D.Desk.standing g.D.Desk.time g.D.Desk.was c.args.root.now bytes (map command_of c.args.commands.now) c.args.desk.now c.start.new.desk 6 (inl refl) reads
    (told_stays g.D.Desk.tells g.D.Desk.standing g.D.Desk.time g.D.Desk.was g.met.D.Desk.counts_now g.met.D.Desk.only_now h c.args.desk.now c.start.new.desk (IsStartOrRecovered start) start.told (c.start.ensures.crash h) (λ crash is. is.told))
    (c.start.ensures.none h) (c.start.ensures.crash h)

pub returns-in-Err-NoMemory-clause-output : goal.returns-in-Err-NoMemory-clause-output
returns-in-Err-NoMemory-clause-output g c = λ h bytes reads.
    let start = g.D.Desk.standing c.args.desk.now in
    failed_run g.D.Desk.standing g.D.Desk.time g.D.Desk.was c.args.root.now bytes (map command_of c.args.commands.now) c.args.desk.now c.start.new.desk 7 (inr refl) reads
    (told_stays g.D.Desk.tells g.D.Desk.standing g.D.Desk.time g.D.Desk.was g.met.D.Desk.counts_now g.met.D.Desk.only_now h c.args.desk.now c.start.new.desk (IsStartOrRecovered start) start.told (c.start.ensures.crash h) (λ crash is. is.told))
    (c.start.ensures.none h) (c.start.ensures.crash h)

pub returns-in-Err-Journal-clause-output : goal.returns-in-Err-Journal-clause-output
returns-in-Err-Journal-clause-output g c = λ h bytes reads.
    let fault = rw c.in-Err-Journal.field-0-is at (c.in-Err-Journal.ensures.fault h) in
    damaged_run g.D.Desk.standing g.D.Desk.time g.D.Desk.was c.args.root.now bytes (map command_of c.args.commands.now) c.args.desk.now c.start.new.desk c.tell.new.desk c.tell.result reads fault.0 fault.1 (c.start.ensures.crash h) (c.tell.ensures.output h)

pub returns-in-Err-Book-clause-output : goal.returns-in-Err-Book-clause-output
returns-in-Err-Book-clause-output g c = λ h bytes reads.
    let root = c.args.root.now in
    let is = rw c.in-Err-Book.field-0-is at (c.in-Err-Book.ensures.fault h) in
    closed_run g.D.Desk.standing g.D.Desk.time g.D.Desk.was root bytes (fault_line (fault_in c.in-Err-Book.fault)) (map command_of c.args.commands.now) c.args.desk.now c.start.new.desk c.tell_fault.new.desk c.tell_fault.result reads is.recovered
    (closed (fault_in c.in-Err-Book.fault) is.cause refl refl refl) (c.start.ensures.crash h)
    (c.tell_fault.ensures.output h)
