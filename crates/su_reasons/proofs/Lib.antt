pub mod LiveEntries
pub mod Ways
pub mod Public
