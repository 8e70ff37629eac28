pub mod AtRest
pub mod Opened
pub mod Voted
