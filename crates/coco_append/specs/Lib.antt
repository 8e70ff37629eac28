pub mod Adding
pub mod EpochEntries
pub mod Gaining
pub mod LastWrites
pub mod Stamps
pub mod Tables
