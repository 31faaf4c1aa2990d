-- The lemmas that proofs of other crates may cite.
pub use Rattle.su_legal.proofs.Lists.{from_the_end, is_in_middle, none_in_empty, only_in, Between, found_split}
pub use Rattle.su_legal.proofs.LegalLists.{after_front, after_rest, after_both, legal_front, legal_next, legal_further, head_none, head_last}
pub use Rattle.su_legal.proofs.VectorCounts.{good_history, vector_last, bump_counts, groups_listed, carried_listed, vector_counts}
pub use Rattle.su_legal.proofs.NextKeys.{keys_told}
