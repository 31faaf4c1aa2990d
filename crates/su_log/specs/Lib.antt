pub mod Part
pub mod Log
pub mod Record
