pub mod Crash
pub mod FileCalls
pub mod Files
pub mod HostState
pub mod Moments
pub mod Record
pub mod Recorded
