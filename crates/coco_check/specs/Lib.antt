pub mod Accepting
pub mod Drafting
pub mod Messages
pub mod Search
pub mod Walking
