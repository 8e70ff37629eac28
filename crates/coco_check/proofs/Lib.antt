pub mod Answering
pub mod FirstErrors
pub mod NameSets
pub mod Procedures
pub mod Statements
pub mod Walks
