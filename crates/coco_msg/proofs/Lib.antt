pub mod Loops
pub mod MessageLemmas
