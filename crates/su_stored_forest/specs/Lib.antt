pub mod Fronts
pub mod Shows
pub mod Freed
