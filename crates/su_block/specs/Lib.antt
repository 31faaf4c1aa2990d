pub mod Failure
pub mod Item
pub mod Memory
