use Rattle.std.proofs.Common.{◌≤◌, drop}
use Rattle.std.specs.Prelude.{IsTrue}
use Rattle.bk_desk.specs.CrashPoints.{AtEachCrash}
use Rattle.bk_desk.specs.Cause.{StaysFaultless}
use Rattle.jr_burst.specs.SavedFiles.{book_files, overlaid}
use Rattle.jr_burst.specs.Commit.{RecoversTo}
use Rattle.jr_burst.proofs.Carrying.{IsUnderWay}
use Rattle.jr_burst.proofs.atomic_commit.carry_out.Given as goal

abbrev pub invariant-loop-step : goal.invariant-loop-step
invariant-loop-step g l = record {
  way : IsTrue g.D.Desk.tells → IsUnderWay l.steps (drop l.step-index l.steps) (g.D.Desk.standing l.fn.desk) (g.D.Desk.standing l.desk);
  crash : IsTrue g.D.Desk.tells → AtEachCrash g.D.Desk.time g.D.Desk.was l.fn.desk l.desk (RecoversTo (overlaid l.steps (book_files (g.D.Desk.standing l.fn.desk).files)) (g.D.Desk.standing l.fn.desk) l.steps);
  no_fault : StaysFaultless g.D.Desk.faultless g.D.Desk.faults l.fn.desk l.desk;
  faults : g.D.Desk.faults l.fn.desk ≤ g.D.Desk.faults l.desk;
  refused : g.D.Desk.refused l.fn.desk ≤ g.D.Desk.refused l.desk;
}
