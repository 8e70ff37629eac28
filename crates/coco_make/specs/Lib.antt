pub mod Faults
pub mod Free
pub mod Making
pub mod Messages
pub mod NewStore
pub mod Steps
