pub mod Besides
pub mod FreeLemmas
pub mod LayoutLemmas
pub mod MakeLemmas
pub mod StepLemmas
pub mod StoreLemmas
