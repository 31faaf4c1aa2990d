pub mod FileNames
pub mod Parts
pub mod Text
