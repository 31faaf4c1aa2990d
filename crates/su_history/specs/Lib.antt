pub mod Several
pub mod Line
