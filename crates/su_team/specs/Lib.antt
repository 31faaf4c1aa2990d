pub mod Group
pub mod Team
pub mod TeamUsers
pub mod Time
pub mod WrongLine
