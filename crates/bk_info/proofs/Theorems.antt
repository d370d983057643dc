-- What the crates above cite of this one.
--
--   element_is, text_is, comment_is, pi_is   a node of the code, and those behind it
--   nodes_before-append, nodes_before-last   nodes in a row
--   element_paths, text_paths, comment_paths, pi_paths, paths_in-append   their paths
--   element_has_via, text_has_via, comment_has_via, pi_has_via, none_have_via, both_have_via   the references through which they came
pub use Rattle.bk_info.proofs.NodeLemmas.{element_is, text_is, comment_is, pi_is, element_paths, text_paths, comment_paths, pi_paths, paths_in-append, nodes_before-append, nodes_before-last}
pub use Rattle.bk_info.proofs.HaveViaLemmas.{element_has_via, text_has_via, comment_has_via, pi_has_via, none_have_via, both_have_via}
