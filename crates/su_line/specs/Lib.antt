pub mod Fault
pub mod Port
