-- What the crates above cite.
pub use Rattle.bk_desk.proofs.CrashPoints.{goes_on, joined, started, weaker}
pub use Rattle.bk_desk.proofs.Faultless.{faultless_started, faultless_joined}
