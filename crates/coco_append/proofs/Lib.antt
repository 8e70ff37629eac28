mod AddLemmas
mod CommitEntries
mod DeclaredTables
pub mod GainLemmas
pub mod LastWriteLemmas
pub mod PastLemmas
mod PreparedEntries
pub mod SwitchLemmas
