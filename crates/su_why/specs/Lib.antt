pub mod Own
pub mod Quiet
