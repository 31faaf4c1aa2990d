pub mod Adding
pub mod Carrying
pub mod Committing
pub mod Cutting
pub mod Leaving
pub mod Stepping
