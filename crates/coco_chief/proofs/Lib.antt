pub mod RangeLemmas
pub mod EpochLemmas
pub mod SpanLemmas
