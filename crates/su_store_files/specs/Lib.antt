pub mod Past
pub mod Volumes
pub mod Archived
