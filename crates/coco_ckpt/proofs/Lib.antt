mod BaseEntries
mod Compacts
mod Filtering
mod Goodness
mod KeptRules
mod Lent
pub mod MapLists
mod MapRows
mod NewFiles
mod Putting
mod Sorted
mod Steps
