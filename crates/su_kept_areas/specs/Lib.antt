pub mod Spelling
pub mod Sided
pub mod Lent
pub mod Format
pub mod Pointer
pub mod Kept
pub mod Marks
