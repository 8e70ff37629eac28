pub mod Printed
pub mod ReadsBack
