pub mod Kept
pub mod Line
pub mod Seen
pub mod Tells
