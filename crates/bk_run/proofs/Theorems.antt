-- What the crates above cite.
pub use Rattle.bk_run.proofs.DoingLemmas.{file_there, start_opens, start_stands, told_stays}
pub use Rattle.bk_run.proofs.RunLemmas.{opened_runs}
pub use Rattle.bk_run.proofs.TellingLemmas.{asks_all, saved_by, stop_last}
