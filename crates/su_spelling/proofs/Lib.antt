mod Characters
mod Examples
mod HighBytes
mod ShownLaws
pub mod Public
