pub mod System
pub mod Replay
pub mod Registers
pub mod Union
pub mod Batch
pub mod Flat
pub mod Blocking
pub mod RegisterBatches
