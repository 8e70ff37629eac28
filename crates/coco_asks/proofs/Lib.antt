pub mod AskLemmas
pub mod EndLemmas
pub mod HostLemmas
pub mod SortLemmas
