pub mod ScriptLemmas
pub mod TryLemmas
pub mod CopyLemmas
pub mod WorkLemmas
