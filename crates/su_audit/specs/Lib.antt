pub mod Step
pub mod Audit
