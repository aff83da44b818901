pub mod Stepped
pub mod Held
pub mod Face
