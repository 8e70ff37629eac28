pub mod Entries
pub mod Steps
pub mod Partitions
pub mod LawLemmas
pub mod ValueLemmas
