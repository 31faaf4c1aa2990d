pub mod Written
pub mod Page
pub mod Bucket
pub mod Places
