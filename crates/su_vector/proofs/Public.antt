-- The lemmas that proofs of other crates may cite.
pub use Rattle.su_vector.proofs.Lengths.{length-bump}
pub use Rattle.su_vector.proofs.Ordering.{le_transitive, le_itself}
