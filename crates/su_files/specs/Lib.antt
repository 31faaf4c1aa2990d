pub mod Place
pub mod Stat
