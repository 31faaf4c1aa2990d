pub mod Getting
pub mod Reading
