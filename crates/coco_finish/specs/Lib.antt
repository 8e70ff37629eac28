pub mod Finishing
pub mod Exchanges
pub mod Phase
pub mod Stopping
