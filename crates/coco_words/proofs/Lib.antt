pub mod ClapOptions
pub mod ClapReads
pub mod CommandWords
pub mod NumberLemmas
