pub mod FoundLemmas
pub mod LoadedLemmas
pub mod PerformLemmas
