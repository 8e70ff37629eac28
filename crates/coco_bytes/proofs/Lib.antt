pub mod FieldLemmas
pub mod NumberLemmas
pub mod ListLemmas
pub mod ValueLemmas
