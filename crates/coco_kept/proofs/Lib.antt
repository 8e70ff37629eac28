pub mod Adding
pub mod Counts
pub mod Filters
pub mod HoldLemmas
pub mod KeepLemmas
pub mod Numbers
pub mod PlaceLemmas
