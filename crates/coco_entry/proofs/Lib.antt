pub mod BaseLemmas
pub mod CallLemmas
pub mod EntryLemmas
pub mod FilesLoop
pub mod FitLemmas
pub mod GrammarLemmas
pub mod LayoutLemmas
pub mod Loops
