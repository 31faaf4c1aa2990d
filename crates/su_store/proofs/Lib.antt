pub mod CrashLemmas
pub mod Shared
pub mod RowLemmas
pub mod CreateLemmas
pub mod RecordLemmas
pub mod BlockLemmas
pub mod SearchLemmas
pub mod AppendLemmas
