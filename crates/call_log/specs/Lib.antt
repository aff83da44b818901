pub mod Words
pub mod Tokens
pub mod Arity
pub mod Faults
pub mod Entries
pub mod Spelled
pub mod Reading
