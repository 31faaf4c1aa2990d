pub mod Later
pub mod PageReading
pub mod BucketLemmas
pub mod Held
pub mod Sound
