-- The lemmas that proofs of other crates may cite.
pub use Rattle.su_message.proofs.TaggedLemmas.{nothing_begins, whole_begins, no_whole_fails}
pub use Rattle.su_message.proofs.RequestLemmas.{fields_lawful as request_fields_lawful, request_read}
