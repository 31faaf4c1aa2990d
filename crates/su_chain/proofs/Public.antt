-- The lemmas that proofs of other crates may cite.
pub use Rattle.su_chain.proofs.EndLemmas.{chain_further, head_further, format_further, vector_further}
