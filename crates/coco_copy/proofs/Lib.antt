pub mod Greatest
pub mod Views
pub mod Whole
