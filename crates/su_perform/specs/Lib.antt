pub mod Accepted
pub mod Loaded
pub mod Found
pub mod Performed
