pub mod Stopping
pub mod Reading
pub mod Requests
pub mod Laws
