pub mod Shard
pub mod Section
