-- What the crates above cite.
pub use Rattle.jr_burst.proofs.Overlay.{overlaid_other}
pub use Rattle.jr_burst.proofs.Recovering.{closed_recovers, open_recovers}
