use Rattle.std.proofs.Common.{◌≡◌, Some, ◌∙◌, ap}
use Rattle.jr_form.specs.Reading.{reading}
use Rattle.jr_burst.proofs.Opening.{journal_written, journal_synced, gate_written, gate_synced, is_staged}
use Rattle.jr_burst.proofs.atomic_commit.open_gate.Goals as goal

pub returns-in_err-write_file-clause-crash : goal.returns-in_err-write_file-clause-crash
returns-in_err-write_file-clause-crash g c = λ h.
    journal_written g.D.Desk.tells g.D.Desk.standing g.D.Desk.time g.D.Desk.was g.met.D.Desk.only_now h c.args.plan.now c.args.desk.now (c.requires.current h) c.write_file.new.self (c.write_file.ensures.crash h)

pub returns-in_err-sync-clause-crash : goal.returns-in_err-sync-clause-crash
returns-in_err-sync-clause-crash g c = λ h.
    let written = journal_written g.D.Desk.tells g.D.Desk.standing g.D.Desk.time g.D.Desk.was g.met.D.Desk.only_now h c.args.plan.now c.args.desk.now (c.requires.current h) c.write_file.new.self (c.write_file.ensures.crash h) in
    journal_synced g.D.Desk.tells g.D.Desk.standing g.D.Desk.time g.D.Desk.was g.met.D.Desk.only_now h c.args.plan.now c.args.desk.now (c.requires.current h) c.write_file.new.self c.sync.new.self _ written (c.in_ok-write_file.ensures.value h) (c.sync.ensures.crash h)

pub returns-in_err-write_file-2-clause-crash : goal.returns-in_err-write_file-2-clause-crash
returns-in_err-write_file-2-clause-crash g c = λ h.
    let reads : reading c.deref.result.now ≡ Some c.args.plan.now = ap reading c.deref.ensures.value ∙ c.plan.invariant ∙ ap Some c.plan.view_is in
    let written = journal_written g.D.Desk.tells g.D.Desk.standing g.D.Desk.time g.D.Desk.was g.met.D.Desk.only_now h c.args.plan.now c.args.desk.now (c.requires.current h) c.write_file.new.self (c.write_file.ensures.crash h) in
    let synced = journal_synced g.D.Desk.tells g.D.Desk.standing g.D.Desk.time g.D.Desk.was g.met.D.Desk.only_now h c.args.plan.now c.args.desk.now (c.requires.current h) c.write_file.new.self c.sync.new.self _ written (c.in_ok-write_file.ensures.value h) (c.sync.ensures.crash h) in
    let staged = is_staged c.args.plan.now c.deref.result.now _ _ _ reads (c.in_ok-write_file.ensures.value h) (c.sync.ensures.same h) (c.in_ok-sync.ensures.durable h) in
    gate_written g.D.Desk.tells g.D.Desk.standing g.D.Desk.time g.D.Desk.was g.met.D.Desk.only_now h c.args.plan.now c.args.desk.now (c.requires.current h) c.sync.new.self c.write_file-2.new.self synced staged (c.write_file-2.ensures.crash h)

pub returns-clause-crash : goal.returns-clause-crash
returns-clause-crash g c = λ h.
    let reads : reading c.deref.result.now ≡ Some c.args.plan.now = ap reading c.deref.ensures.value ∙ c.plan.invariant ∙ ap Some c.plan.view_is in
    let written = journal_written g.D.Desk.tells g.D.Desk.standing g.D.Desk.time g.D.Desk.was g.met.D.Desk.only_now h c.args.plan.now c.args.desk.now (c.requires.current h) c.write_file.new.self (c.write_file.ensures.crash h) in
    let synced = journal_synced g.D.Desk.tells g.D.Desk.standing g.D.Desk.time g.D.Desk.was g.met.D.Desk.only_now h c.args.plan.now c.args.desk.now (c.requires.current h) c.write_file.new.self c.sync.new.self _ written (c.in_ok-write_file.ensures.value h) (c.sync.ensures.crash h) in
    let staged = is_staged c.args.plan.now c.deref.result.now _ _ _ reads (c.in_ok-write_file.ensures.value h) (c.sync.ensures.same h) (c.in_ok-sync.ensures.durable h) in
    let gated = gate_written g.D.Desk.tells g.D.Desk.standing g.D.Desk.time g.D.Desk.was g.met.D.Desk.only_now h c.args.plan.now c.args.desk.now (c.requires.current h) c.sync.new.self c.write_file-2.new.self synced staged (c.write_file-2.ensures.crash h) in
    gate_synced g.D.Desk.tells g.D.Desk.standing g.D.Desk.time g.D.Desk.was g.met.D.Desk.only_now h c.args.plan.now c.args.desk.now (c.requires.current h) c.sync.new.self c.write_file-2.new.self c.sync-2.new.self _ gated staged (c.in_ok-write_file-2.ensures.value h) (c.sync-2.ensures.crash h)
