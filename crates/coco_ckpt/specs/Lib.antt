pub mod Compacting
pub mod Laws
pub mod Writing
