pub mod DraftTakes
pub mod LeastFree
pub mod Spelling
pub mod StaleBodies
pub mod TakeCounts
pub mod WalkSteps
