pub mod Loading
pub mod Seeing
pub mod Putting
pub mod Changed
pub mod Staying
pub mod Looking
