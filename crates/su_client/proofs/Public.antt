-- The lemmas that proofs of other crates may cite.
pub use Rattle.su_client.proofs.Ahead.{ahead_follows, ahead_itself, ahead_on, exchanged_ahead}
