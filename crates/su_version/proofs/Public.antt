-- The lemmas that proofs of other crates may cite.
pub use Rattle.su_version.proofs.Spelling.{version_of, version_lawful}
pub use Rattle.su_version.proofs.CommitSpelling.{commit_of, commit_lawful, roster_is_no_commit}
pub use Rattle.su_version.proofs.Chaining.{group_listed}
pub use Rattle.su_version.proofs.Counting.{length-chain_vector}
pub use Rattle.su_version.proofs.Keys.{key_further, keys_further, key_at_first, keys_at_first, still_had, key_was_had, key_of_user}
pub use Rattle.su_version.proofs.Leaves.{above_all, leaf_further, next_leaf}
pub use Rattle.su_version.proofs.Nexts.{signed_by_user, next_signed, next_prev, next_format, next_counts, next_new_key, next_good_key, next_user}
