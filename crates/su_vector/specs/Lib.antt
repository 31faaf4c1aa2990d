pub mod Vector
pub mod Order
