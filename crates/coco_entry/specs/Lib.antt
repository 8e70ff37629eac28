pub mod Bases
pub mod Calls
pub mod Commits
pub mod Grammar
pub mod Layouts
pub mod Messages
pub mod Rows
