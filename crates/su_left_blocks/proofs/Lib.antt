pub mod Public
pub mod PutLemmas
