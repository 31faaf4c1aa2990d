pub mod Carrying
pub mod Fault
pub mod FoundChanges
pub mod LastChange
pub mod Moving
pub mod Putting
pub mod Undoing
