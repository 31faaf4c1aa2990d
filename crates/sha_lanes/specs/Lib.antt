pub mod Chain
pub mod Lanes
pub mod Run
