pub mod Replies
pub mod Script
pub mod Shown
