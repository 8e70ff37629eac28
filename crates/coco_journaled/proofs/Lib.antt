pub mod Closing
pub mod Holding
pub mod Stepping
pub mod Picking
