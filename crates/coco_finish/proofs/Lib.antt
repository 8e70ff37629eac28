pub mod TableLemmas
pub mod HearLemmas
pub mod FinishLemmas
pub mod LoopLemmas
pub mod ExchangeLemmas
pub mod PhaseLemmas
pub mod StoppingLemmas
