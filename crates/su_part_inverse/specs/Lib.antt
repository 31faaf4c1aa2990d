pub mod Kept
pub mod Steps
pub mod Ready
pub mod Open
pub mod Lefts
pub mod Small
pub mod Packed
