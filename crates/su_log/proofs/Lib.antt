mod PartLemmas
mod RecordLemmas
pub mod Public
