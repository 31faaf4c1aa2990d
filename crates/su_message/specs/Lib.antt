pub mod LastNumbers
pub mod Tagged
pub mod Request
pub mod Reply
