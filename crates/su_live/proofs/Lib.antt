pub mod Tests
pub mod ReadersLemmas
pub mod LiveLemmas
pub mod BoxLemmas
pub mod BlockerLemmas
pub mod Public
