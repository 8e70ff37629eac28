pub mod Running
pub mod Voting
