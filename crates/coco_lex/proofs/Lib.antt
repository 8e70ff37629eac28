pub mod Heads
pub mod Runs
pub mod Texts
pub mod Fronts
pub mod Gaps
pub mod Faults
pub mod Readings
