pub mod AskLemmas
pub mod HandleLemmas
pub mod KeepingLemmas
pub mod JoinLemmas
pub mod ShownLemmas
pub mod MakeLemmas
pub mod ListLemmas
