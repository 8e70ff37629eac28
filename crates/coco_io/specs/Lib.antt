pub mod Counts
pub mod Giving
pub mod Outcomes
pub mod Plan
pub mod SinkState
pub mod SourceState
