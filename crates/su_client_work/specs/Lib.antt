pub mod Member
pub mod Turn
pub mod Work
pub mod Publishing
pub mod SavedLog
pub mod TakenLog
