-- The lemmas that proofs of other crates may cite: what is seen, against a tree for which the forest stands; and what is known, and stays so.
pub use Rattle.su_part_forest.proofs.Bridge.{kind_seen, links_seen, size_seen, name_seen, bare_seen, pointer_seen, inode_of_name}
pub use Rattle.su_part_forest.proofs.Seeing.{seen_inodes, seen_pointers}
pub use Rattle.su_part_forest.proofs.Knowing.{free_none, has_again, has_inode_of, inode_loaded, known_kept, pointer_again, taken}
