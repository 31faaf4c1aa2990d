pub mod Lie
pub mod Walks
