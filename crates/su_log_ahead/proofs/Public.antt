-- The lemmas that proofs of other crates may cite.
pub use Rattle.su_log_ahead.proofs.AheadLemmas.{ahead, all_left, examined, all_spelled}
