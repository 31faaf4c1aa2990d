pub mod Said
pub mod ClientScript
pub mod Examples
