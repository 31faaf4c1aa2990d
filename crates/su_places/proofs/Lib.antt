pub mod TablesLemmas
pub mod CrashLemmas
pub mod BesideLemmas
pub mod PlaceLemmas
pub mod CurrentLemmas
