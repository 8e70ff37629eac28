pub mod Basing
pub mod Behind
pub mod Judged
pub mod Noting
pub mod Readying
pub mod Sizes
