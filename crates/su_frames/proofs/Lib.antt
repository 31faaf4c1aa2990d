mod Cutting
mod Framing
pub mod Writing
