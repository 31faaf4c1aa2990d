-- The lemmas that proofs of other crates may cite.
pub use Rattle.su_op.proofs.AreaLemmas.{areas_apart, overlap_shares}
pub use Rattle.su_op.proofs.BlockLemmas.{block_same, block_value_same, byte_same, get_or-with_size, get_or-written_after, get_or-written_before, get_or-written_in, length-with_bytes_at, length-with_size, resized_same}
pub use Rattle.su_op.proofs.EditLemmas.{field_after, place_value_same, pointer_is, tree_same}
pub use Rattle.su_op.proofs.InodeChangeLemmas.{file_value_same, inode_same, number_same}
pub use Rattle.su_op.proofs.KeyLemmas.{get-set_name, get-set_place, name_eq-itself, name_eq-same, place_eq-itself, place_eq-same}
pub use Rattle.su_op.proofs.RuleLemmas.{Gives, gives_of}
pub use Rattle.su_op.proofs.SoundnessLemmas.{block_written, kind_written, kinds_new}
pub use Rattle.su_op.proofs.StoreLemmas.{none_is, store_lawful}
pub use Rattle.su_op.proofs.ListLemmas.{has_joined, list_kind, lists_lawful}
pub use Rattle.su_op.proofs.BatchLemmas.{batch_block_written, batch_kind_written, batches_lawful, effect_alone, first_accepted, reads_alone, why_alone, writes_alone}
