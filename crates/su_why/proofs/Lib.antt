pub mod Listed
pub mod Quiets
