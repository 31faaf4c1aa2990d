pub mod Keeping
pub mod Tried
pub mod Joined
pub mod Right
pub mod Asked
pub mod Trusted
pub mod Hashed
