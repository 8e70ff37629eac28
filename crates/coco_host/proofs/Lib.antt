mod Crashing
mod Cutting
mod Entering
mod Events
mod Keeping
mod Places
pub mod Sees
mod Saying
mod Tearing
