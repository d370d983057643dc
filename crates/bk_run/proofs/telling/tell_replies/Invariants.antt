use Rattle.std.proofs.Common.{◌≡◌, ℕ, List, ◌≤◌, ◌+◌, ◌*◌, map, take}
use Rattle.std.specs.Prelude.{IsTrue}
use Rattle.xt_spec.specs.Limit.{most_file_bytes}
use Rattle.bk_desk.specs.CrashPoints.{AtEachCrash}
use Rattle.bk_desk.specs.Cause.{StaysFaultless}
use Rattle.jr_burst.specs.Commit.{IsClosed}
use Rattle.ed_spec.specs.Session.{Session, Step, DoesAll}
use Rattle.bk_run.specs.Stops.{IsOfOneBurst}
use Rattle.bk_run.specs.Counts.{all_steps}
use Rattle.bk_run.specs.Doing.{asked_of, Stands}
use Rattle.bk_run.specs.Telling.{AreTold}
use Rattle.bk_run.proofs.telling.tell_replies.Given as goal

abbrev pub invariant-loop-command : goal.invariant-loop-command
invariant-loop-command g l = record {
  closed : IsTrue g.D.Desk.tells → IsClosed (g.D.Desk.standing l.desk);
  told : IsTrue g.D.Desk.tells → (s : Session) → Stands l.fn.session (g.D.Desk.standing l.fn.desk) s → AreTold l.fn.session.root s (map asked_of (take l.command-index l.commands)) l.session (g.D.Desk.standing l.fn.desk) (g.D.Desk.standing l.desk) l.refused;
  crash : IsTrue g.D.Desk.tells → (s last : Session) (steps : List Step) (more : List ℕ) → Stands l.fn.session (g.D.Desk.standing l.fn.desk) s → DoesAll l.fn.session.root s (map asked_of l.commands) steps last
      → AtEachCrash g.D.Desk.time g.D.Desk.was l.fn.desk l.desk (IsOfOneBurst (g.D.Desk.standing l.fn.desk) s.saved steps more);
  no_fault : StaysFaultless g.D.Desk.faultless g.D.Desk.faults l.fn.desk l.desk;
  faults : g.D.Desk.faults l.fn.desk ≤ g.D.Desk.faults l.desk;
  later : l.fn.steps ≤ l.steps;
  counted : l.steps ≤ l.fn.steps + l.command-index * most_file_bytes;
  exact : IsTrue g.D.Desk.tells → (s last : Session) (steps : List Step) → Stands l.fn.session (g.D.Desk.standing l.fn.desk) s → DoesAll l.fn.session.root s (map asked_of l.commands) steps last
      → l.steps ≡ l.fn.steps + all_steps l.fn.session.root (map asked_of (take l.command-index l.commands)) steps;
}
