mod TaggedLemmas
mod LastNumbersLemmas
mod RequestLemmas
mod ReplyLemmas
pub mod Public
