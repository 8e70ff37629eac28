pub mod Growth
pub mod Report
pub mod Trying
pub mod Work
pub mod Working
