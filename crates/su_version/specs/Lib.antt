pub mod Version
pub mod Commit
pub mod Chain
pub mod Tip
