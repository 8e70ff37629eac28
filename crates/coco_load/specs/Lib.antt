pub mod Epochs
pub mod Laws
pub mod Packing
pub mod Reading
pub mod RowMaps
pub mod Tables
