pub mod Formats
pub mod Lists
pub mod SidedLemmas
pub mod FewLemmas
pub mod Tests
pub mod MarksLemmas
pub mod CursorLemmas
mod Examples
pub mod Public
