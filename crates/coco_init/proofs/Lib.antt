pub mod InputLemmas
pub mod MakingLemmas
pub mod TextLemmas
