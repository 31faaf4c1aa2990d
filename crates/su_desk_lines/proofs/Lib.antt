pub mod Numbers
pub mod EmptyWords
pub mod Bytes
pub mod Broken
pub mod FoundForms
pub mod ReadingValues
pub mod ReadingBatches
pub mod CheckingValues
