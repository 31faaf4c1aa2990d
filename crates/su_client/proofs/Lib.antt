mod Ahead
mod Following
mod Joining
mod Sending
pub mod Public
