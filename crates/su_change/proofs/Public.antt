-- The lemmas that proofs of other crates may cite.
pub use Rattle.su_change.proofs.Items.{item_lawful, item_of, has_spelling, too_long_for_one}
