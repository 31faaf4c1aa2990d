-- The lemmas that proofs of other crates may cite.
pub use Rattle.su_spelling.proofs.ShownLaws.{read-shown, stays-shown, stays-shown_from}
