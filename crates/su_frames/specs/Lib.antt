pub mod Stream
pub mod Sending
