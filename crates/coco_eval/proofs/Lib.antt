pub mod Bridge
pub mod Growing
pub mod RunLemmas
pub mod SlotLemmas
pub mod StepLemmas
pub mod TermLemmas
pub mod Walks
