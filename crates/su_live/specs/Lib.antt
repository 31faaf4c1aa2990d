pub mod Readers
pub mod Live
