pub mod Between
pub mod DumpLemmas
pub mod Fitting
pub mod LineLemmas
pub mod Replies
pub mod Tokens
