pub mod Codes
pub mod CopyState
pub mod Greatest
pub mod Kept
pub mod Packed
pub mod Puts
