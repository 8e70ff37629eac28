pub mod BasingLemmas
pub mod CommitLemmas
pub mod EpochLemmas
pub mod JudgedLemmas
pub mod LayoutLemmas
pub mod NotingLemmas
pub mod PlacingLemmas
pub mod ReadyingLemmas
