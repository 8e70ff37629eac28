pub mod ShardLemmas
pub mod RunLemmas
pub mod TailLemmas
