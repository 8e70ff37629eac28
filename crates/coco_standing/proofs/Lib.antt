pub mod Changing
pub mod Nodes
pub mod Resting
pub mod Unions
pub mod Pending
pub mod AtRest
pub mod Moving
