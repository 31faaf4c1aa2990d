mod Quiets
pub mod Stepping
