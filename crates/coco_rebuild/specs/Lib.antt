pub mod Answers
pub mod Laws
pub mod Rebuilding
pub mod Sources
pub mod Messages
