pub mod Sizes
pub mod KindLemmas
pub mod Operations
pub mod Batches
pub mod Items
pub mod Fillings
pub mod OutlineLemmas
pub mod Public
mod Examples
