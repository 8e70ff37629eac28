pub mod Listing
pub mod Storing
pub mod Versions
