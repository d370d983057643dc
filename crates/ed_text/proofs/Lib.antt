mod Examples
pub mod ContentLemmas
pub mod PieceLemmas
pub mod ReadingLemmas
pub mod StandingLemmas
pub mod TextEditLemmas
pub mod TextFileLemmas
pub mod TextPlaceLemmas
pub mod Theorems
pub mod Utf8Lemmas
