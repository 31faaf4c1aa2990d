pub mod Kept
pub mod Remaining
pub mod Whole
