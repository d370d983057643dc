pub mod ValueLemmas
pub mod TreeLemmas
