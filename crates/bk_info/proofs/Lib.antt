pub mod NodeLemmas
pub mod HaveViaLemmas
pub mod InfosetLemmas
pub mod Theorems
