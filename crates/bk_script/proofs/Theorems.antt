-- What the crates above cite.
pub use Rattle.bk_script.proofs.Scripts.{fault_takes, no_fault, one_fault, one_reading, script_takes}
