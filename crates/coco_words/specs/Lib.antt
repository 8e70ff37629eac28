pub mod Commands
pub mod Matches
pub mod Messages
pub mod Options
