pub mod Script
pub mod Raw
pub mod Range
pub mod Lines
pub mod Unread
pub mod Form
pub mod Value
pub mod Desk
