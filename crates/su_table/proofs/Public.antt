-- The lemmas that proofs of other crates may cite.
pub use Rattle.su_table.proofs.Places.{place_cmp_exact, place_cmp_total}
pub use Rattle.su_table.proofs.Stores.{file_eq-derived}
pub use Rattle.su_table.proofs.TakenBack.{edit-back}
