mod BuildLemmas
mod BuiltLemmas
mod Examples
pub mod ItemPlaces
pub mod LeafKinds
pub mod PatchLemmas
pub mod PlaceLemmas
mod RowLemmas
pub mod Sizes
mod SplitLemmas
pub mod Theorems
pub mod Walks
