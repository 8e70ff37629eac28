pub mod Gains
pub mod Rows
pub mod Locking
pub mod Desks
