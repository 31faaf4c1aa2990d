pub mod Key
pub mod NextKey
pub mod Unfinished
