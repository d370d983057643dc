use Rattle.std.proofs.Common.{map}
use Rattle.std.specs.Prelude.{string_bytes}
use Rattle.bk_desk.specs.Cause.{Rose}
use Rattle.bk_desk.specs.CrashPoints.{AtEachCrash}
use Rattle.book_cli.specs.Words.{root_of}
use Rattle.book_cli.proofs.EndLemmas.{ends_output, ends_crash, ends_durable, ends_others, ends_early, answers_only}
use Rattle.book_cli.proofs.LocalLemmas.{ends_local, early_local}
use Rattle.book_cli.proofs.run.run.Goals as goal

pub returns-clause-law : goal.returns-clause-law
returns-clause-law g c = λ h left told.
    ends_local (root_of (map string_bytes c.args.words.now)) left (Rose (g.S.Source.faults c.args.script.now) (g.S.Source.faults c.run_words.new.script)) (g.D.Desk.standing c.args.desk.now) (g.D.Desk.standing c.run_words.new.desk)
    (AtEachCrash g.D.Desk.time g.D.Desk.was c.args.desk.now c.run_words.new.desk) c.run_words.result (c.run_words.ensures.output h left told)

pub returns-clause-law_prefix : goal.returns-clause-law_prefix
returns-clause-law_prefix g c = λ h left told.
    early_local (root_of (map string_bytes c.args.words.now)) left (Rose (g.S.Source.faults c.args.script.now) (g.S.Source.faults c.run_words.new.script)) (g.D.Desk.standing c.args.desk.now) (g.D.Desk.standing c.run_words.new.desk)
    (AtEachCrash g.D.Desk.time g.D.Desk.was c.args.desk.now c.run_words.new.desk) c.run_words.result (c.run_words.ensures.output h left told)

pub returns-clause-output : goal.returns-clause-output
returns-clause-output g c = λ h left told.
    ends_output (root_of (map string_bytes c.args.words.now)) left (Rose (g.S.Source.faults c.args.script.now) (g.S.Source.faults c.run_words.new.script)) (g.D.Desk.standing c.args.desk.now) (g.D.Desk.standing c.run_words.new.desk)
    (AtEachCrash g.D.Desk.time g.D.Desk.was c.args.desk.now c.run_words.new.desk) c.run_words.result (c.run_words.ensures.output h left told)

pub returns-clause-crash : goal.returns-clause-crash
returns-clause-crash g c = λ h left told.
    ends_crash (root_of (map string_bytes c.args.words.now)) left (Rose (g.S.Source.faults c.args.script.now) (g.S.Source.faults c.run_words.new.script)) (g.D.Desk.standing c.args.desk.now) (g.D.Desk.standing c.run_words.new.desk)
    (AtEachCrash g.D.Desk.time g.D.Desk.was c.args.desk.now c.run_words.new.desk) c.run_words.result (c.run_words.ensures.output h left told)

pub returns-clause-durable : goal.returns-clause-durable
returns-clause-durable g c = λ h left told.
    ends_durable (root_of (map string_bytes c.args.words.now)) left (Rose (g.S.Source.faults c.args.script.now) (g.S.Source.faults c.run_words.new.script)) (g.D.Desk.standing c.args.desk.now) (g.D.Desk.standing c.run_words.new.desk)
    (AtEachCrash g.D.Desk.time g.D.Desk.was c.args.desk.now c.run_words.new.desk) c.run_words.result (c.run_words.ensures.output h left told)

pub returns-clause-others : goal.returns-clause-others
returns-clause-others g c = λ h left told.
    ends_others (root_of (map string_bytes c.args.words.now)) left (Rose (g.S.Source.faults c.args.script.now) (g.S.Source.faults c.run_words.new.script)) (g.D.Desk.standing c.args.desk.now) (g.D.Desk.standing c.run_words.new.desk)
    (AtEachCrash g.D.Desk.time g.D.Desk.was c.args.desk.now c.run_words.new.desk) c.run_words.result (c.run_words.ensures.output h left told)

pub returns-clause-prefix : goal.returns-clause-prefix
returns-clause-prefix g c = λ h left told failed.
    ends_early (root_of (map string_bytes c.args.words.now)) left (Rose (g.S.Source.faults c.args.script.now) (g.S.Source.faults c.run_words.new.script)) (g.D.Desk.standing c.args.desk.now) (g.D.Desk.standing c.run_words.new.desk)
    (AtEachCrash g.D.Desk.time g.D.Desk.was c.args.desk.now c.run_words.new.desk) c.run_words.result (c.run_words.ensures.output h left told)

pub returns-clause-only : goal.returns-clause-only
returns-clause-only g c = λ h left told desk_never source_never.
    answers_only (map string_bytes c.args.words.now) left (g.D.Desk.standing c.args.desk.now).files c.run_words.result (g.D.Desk.standing c.args.desk.now).told (g.D.Desk.standing c.run_words.new.desk).told
    c.run_words.ensures.value (λ five. source_never (c.run_words.ensures.cause.rose five)) (λ six. desk_never (c.run_words.ensures.cause_desk.rose six))
    (ends_output (root_of (map string_bytes c.args.words.now)) left (Rose (g.S.Source.faults c.args.script.now) (g.S.Source.faults c.run_words.new.script)) (g.D.Desk.standing c.args.desk.now) (g.D.Desk.standing c.run_words.new.desk)
    (AtEachCrash g.D.Desk.time g.D.Desk.was c.args.desk.now c.run_words.new.desk) c.run_words.result (c.run_words.ensures.output h left told))
