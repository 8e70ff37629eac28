pub mod Lists
pub mod Keeping
pub mod Noted
pub mod Dealt
pub mod Closing
