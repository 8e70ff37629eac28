mod EndingLemmas
mod SuccessLemmas
