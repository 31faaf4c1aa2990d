pub mod Kept
pub mod Tables
pub mod Changes
pub mod Lookups
pub mod Schemas
pub mod Files
pub mod Opening
pub mod Shut
