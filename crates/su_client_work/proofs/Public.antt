-- The lemmas that proofs of other crates may cite.
pub use Rattle.su_client_work.proofs.Asked.{asks_stays, asks_then, clear_from, clear_same, clear_to}
pub use Rattle.su_client_work.proofs.Published.{published_after}
pub use Rattle.su_client_work.proofs.Taking.{only_asks, only_stays, only_then}
pub use Rattle.su_client_work.proofs.Turns.{gives_turn_up}
pub use Rattle.su_client_work.proofs.Working.{most_after, works_asks, works_grew, works_same, works_still, works_then, works_takes, works_replaced, works_stays}
