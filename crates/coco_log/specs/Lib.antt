pub mod Changes
pub mod Drafts
pub mod Faults
pub mod Gates
pub mod Grammar
pub mod LogState
pub mod Making
pub mod Reading
