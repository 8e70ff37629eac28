pub mod Reminding
pub mod Settling
