pub mod Again
pub mod Faults
pub mod Growth
pub mod OneBatch
pub mod Seen
pub mod Serving
