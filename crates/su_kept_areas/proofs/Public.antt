-- What proofs of the crates above may cite of this one.
pub use Rattle.su_kept_areas.proofs.MarksLemmas.{Share, meeting_share}
