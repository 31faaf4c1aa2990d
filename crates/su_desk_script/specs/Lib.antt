pub mod Quiet
pub mod Answer
pub mod Session
pub mod Described
pub mod Transcript
pub mod Step
