pub mod Working
pub mod StepLemmas
pub mod ChangeLemmas
pub mod FillingLemmas
pub mod FoundLemmas
pub mod PutLemmas
