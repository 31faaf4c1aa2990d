-- The lemmas that proofs of other crates may cite.
pub use Rattle.su_reasons.proofs.Ways.{answers_accepted, refused_by}
