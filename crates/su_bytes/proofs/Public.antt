-- The lemmas that proofs of other crates may cite.
pub use Rattle.su_bytes.proofs.Keys.{key_listed, user_has_key}
pub use Rattle.su_bytes.proofs.Lists.{list_any-map}
pub use Rattle.su_bytes.proofs.Orders.{never_both, EachOnce, once, one_refusal, EachSays, refused_says, passes_both, passes_first, passes_later, refused_first, refused_later}
pub use Rattle.su_bytes.proofs.FormatOrder.{newest}
