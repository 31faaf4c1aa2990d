pub mod Fitting
pub mod Link
pub mod Following
pub mod Ahead
pub mod Asking
pub mod Outbox
