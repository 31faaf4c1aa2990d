-- The lemmas that proofs of other crates may cite.
pub use Rattle.su_book.proofs.Runs.{run_push, records_push, holder_push, stored_next, along}
pub use Rattle.su_book.proofs.AnswerLemmas.{grant_asks, commit_asks, give_asks}
