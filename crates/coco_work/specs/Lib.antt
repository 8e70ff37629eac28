pub mod Pacing
pub mod Working
