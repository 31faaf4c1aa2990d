pub mod Forest
pub mod Seen
pub mod Loading
pub mod Reading
pub mod Sheds
pub mod Copy
pub mod Known
