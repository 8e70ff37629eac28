pub mod Sums
pub mod Counts
pub mod Keeping
pub mod Making
pub mod Closing
pub mod Drawing
