pub mod CrashLemmas
pub mod FoundLemmas
pub mod PastLemmas
pub mod VolumeLemmas
