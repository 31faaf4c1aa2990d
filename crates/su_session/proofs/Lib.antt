pub mod Sending
pub mod Going
pub mod Ending
pub mod Waiting
