pub mod Mail
pub mod Giving
pub mod Rounds
pub mod Passing
pub mod Room
