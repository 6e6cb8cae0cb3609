pub mod Token
pub mod Tokens
