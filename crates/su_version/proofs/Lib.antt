mod Spelling
mod CommitSpelling
mod Chaining
mod Counting
mod Keys
mod Leaves
mod Nexts
pub mod Public
