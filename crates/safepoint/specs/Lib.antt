pub mod Boxed
pub mod Held
pub mod Codes
pub mod Told
