pub mod AnswerLemmas
pub mod BatchLemmas
pub mod ClassLemmas
pub mod GivenLemmas
pub mod JoinLemmas
pub mod NewRequestLemmas
