-- The lemmas that proofs of other crates may cite.
pub use Rattle.su_node.proofs.Contents.{get_or-block, get_or-with_size, get_or-written_after, get_or-written_before, get_or-written_in, length-block, length-with_bytes_at, length-with_size}
pub use Rattle.su_node.proofs.Maps.{copied_more, entries-from_entries, eq_by_cmp-same, from_entries-put, from_entries-updates, from_entries-without, get-from_entries_lookup, get-set_key, get-set_key_here, set_key-get, set_key-set_key, set_key_back}
pub use Rattle.su_node.proofs.NameOrder.{name_cmp_exact, name_cmp_total}
