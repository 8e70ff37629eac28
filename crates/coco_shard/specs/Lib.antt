pub mod Codes
pub mod Kept
pub mod Law
pub mod Memory
pub mod Packed
pub mod RowState
pub mod Table
