pub mod Shards
pub mod Pieces
pub mod SerialEpoch
pub mod Running
