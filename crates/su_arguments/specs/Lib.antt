pub mod Line
pub mod Ranges
