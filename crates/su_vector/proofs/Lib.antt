mod Lengths
mod Ordering
pub mod Public
