pub mod Closes
pub mod Notes
pub mod Rules
pub mod Steps
