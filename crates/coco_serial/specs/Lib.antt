pub mod Applied
pub mod AppliedCode
