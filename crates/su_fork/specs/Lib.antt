pub mod Numbered
pub mod Events
pub mod Premises
pub mod Consistency
pub mod Noticing
pub mod Calls
