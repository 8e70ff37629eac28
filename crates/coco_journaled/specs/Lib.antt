pub mod Holding
pub mod Packing
pub mod Passes
pub mod Replay
