pub mod CallEquality
pub mod KeyMaps
pub mod Keys
pub mod PaddedLemmas
