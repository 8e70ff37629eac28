pub mod Copying
pub mod Gains
pub mod Trying
pub mod Working
