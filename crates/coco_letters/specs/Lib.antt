pub mod Around
pub mod GivingUp
pub mod Saying
pub mod Telling
pub mod Turns
pub mod Taking
pub mod Counting
pub mod Worlds
