pub mod NodeLemmas
pub mod RestLemmas
pub mod MemberLemmas
pub mod SilentLemmas
