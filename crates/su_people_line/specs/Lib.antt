pub mod Deed
pub mod Said
pub mod Server
