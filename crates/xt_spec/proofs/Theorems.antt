-- What the crates above cite.
pub use Rattle.xt_spec.proofs.PathLemmas.{item_in-behind, item_in-first, item_text, item_under, replaced_in-behind, replaced_in-first, replaced_under, source_text-append, source_text-before}
