pub mod Lists
pub mod LegalLists
pub mod VectorCounts
pub mod NextKeys
pub mod Public
