-- What the crates above cite.
pub use Rattle.bk_name.proofs.Examples.{book_folder, escapes, fragment_of_joined, joined_with_fragment, no_port}
