pub mod Bytes
pub mod Gap
pub mod Lexeme
pub mod Tokens
pub mod Refusal
pub mod Steps
pub mod Messages
