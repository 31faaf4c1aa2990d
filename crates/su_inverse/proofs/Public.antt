-- The lemmas that proofs of other crates may cite.
pub use Rattle.su_inverse.proofs.InverseLemmas.{writes_kept}
pub use Rattle.su_inverse.proofs.KeptLemmas.{kept_again}
