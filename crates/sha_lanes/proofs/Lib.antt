pub mod BlockWords
pub mod Bytes
pub mod Chains
mod ChMaj
pub mod Ends
mod LaneLemmas
pub mod OneBlock
pub mod Ordering
mod Picking
