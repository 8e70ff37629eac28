pub mod Numbers
pub mod Seats
pub mod Drawing
pub mod Sitting
