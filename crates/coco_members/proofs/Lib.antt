pub mod LetterLemmas
pub mod OpenedLemmas
pub mod PlaceLemmas
pub mod TableLemmas
