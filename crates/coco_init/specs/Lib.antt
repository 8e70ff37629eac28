pub mod Counts
pub mod Initiating
pub mod Reading
pub mod Texts
