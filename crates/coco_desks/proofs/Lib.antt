pub mod GainLemmas
pub mod RowLemmas
mod ClosingLemmas
pub mod StartingLemmas
pub mod DeskLemmas
