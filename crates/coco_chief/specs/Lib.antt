pub mod Chief
pub mod Ranges
pub mod Table
pub mod Telling
pub mod Shown
