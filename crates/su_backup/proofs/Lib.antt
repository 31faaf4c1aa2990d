pub mod CopyLemmas
pub mod BookLemmas
