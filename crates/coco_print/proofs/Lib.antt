pub mod Escapes
pub mod Laid
pub mod Parts
pub mod Readable
pub mod Expressions
pub mod Statements
pub mod Files
pub mod Sources
