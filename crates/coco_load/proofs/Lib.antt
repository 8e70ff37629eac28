pub mod Adding
pub mod Following
pub mod JoinedMaps
pub mod LentMaps
pub mod Loading
pub mod Ring
pub mod TableLemmas
pub mod Writes
