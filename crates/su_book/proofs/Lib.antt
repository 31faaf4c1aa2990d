pub mod Public
pub mod Runs
pub mod LastLemmas
pub mod AnswerLemmas
