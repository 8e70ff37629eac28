pub mod MailLemmas
pub mod GivingLemmas
pub mod ChoiceLemmas
pub mod PassingLemmas
pub mod RoomLemmas
