pub mod Spelling
pub mod Items
pub mod Loading
pub mod Putting
pub mod Part
pub mod Taking
