pub mod Differing
pub mod Dumping
pub mod Texts
