-- The lemmas that proofs of other crates may cite.
pub use Rattle.su_log.proofs.PartLemmas.{first_is, too_long, too_short}
