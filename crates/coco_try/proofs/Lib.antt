mod EachLemmas
mod FitLemmas
mod GrowthLemmas
pub mod NumberLemmas
mod PartLemmas
mod SumLemmas
mod TellLemmas
mod WorkLemmas
