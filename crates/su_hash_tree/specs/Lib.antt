pub mod Edits
pub mod Sort
pub mod Stands
pub mod Seen
pub mod Clones
