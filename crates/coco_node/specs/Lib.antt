pub mod Node
pub mod Table
