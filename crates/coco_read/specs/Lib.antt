pub mod Counting
pub mod EntryRules
pub mod Faults
pub mod Messages
