mod LastLemmas
mod OwnLemmas
mod RequestLemmas
mod AnswerLemmas
mod KeptLemmas
