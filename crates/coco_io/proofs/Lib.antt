pub mod CountsLemmas
pub mod KnownLemmas
pub mod PartLemmas
