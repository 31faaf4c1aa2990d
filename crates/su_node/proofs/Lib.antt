pub mod Maps
pub mod NameOrder
pub mod Names
pub mod Contents
pub mod Numbered
pub mod Hashed
pub mod Costs
pub mod Public
