mod AheadLemmas
pub mod Public
