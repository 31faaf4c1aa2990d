pub mod Legal
pub mod Act
