pub mod Arguments
pub mod Commands
pub mod Reporting
pub mod Success
