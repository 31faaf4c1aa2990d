mod FreedLemmas
mod StoredLemmas
pub mod Public
