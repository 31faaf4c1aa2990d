pub mod TableLemmas
pub mod GroupLemmas
pub mod LoadedLemmas
pub mod Public
