mod NodeLemmas
mod FaultLemmas
mod LeafLemmas
mod PlaceLemmas
mod ElementLemmas
mod ItemLemmas
mod CutLemmas
mod PathLemmas
mod ViaLemmas
mod TagLemmas
mod DocumentLemmas
mod AroundLemmas
mod DistinctLemmas
mod AttributeLemmas
mod OwnLemmas
pub mod OpeningLemmas
pub mod OnceLemmas
mod SomeOpening
pub mod Theorems
