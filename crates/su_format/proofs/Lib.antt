mod Formats
mod Parts
mod Repeats
mod Rows
mod Wholes
pub mod Public
