pub mod Order
pub mod OneKey
pub mod Execution
pub mod Outcome
pub mod Conflicts
pub mod Laws
pub mod ExecutionExamples
