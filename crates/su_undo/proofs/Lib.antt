pub mod TakingOut
pub mod Copies
pub mod BatchLemmas
pub mod BlockingLemmas
pub mod CopyBatches
