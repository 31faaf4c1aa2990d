pub mod Kept
pub mod Cache
