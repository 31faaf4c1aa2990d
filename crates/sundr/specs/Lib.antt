pub mod Key
pub mod Run
pub mod Saved
