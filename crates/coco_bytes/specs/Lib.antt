pub mod Fields
pub mod Lists
pub mod Messages
pub mod Reads
pub mod Values
