pub mod Appends
pub mod Changing
pub mod Drafting
pub mod OneLog
pub mod OnlyRead
mod Others
mod Places
mod Readings
pub mod Rests
mod Steps
mod Walks
