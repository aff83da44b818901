pub mod Gets
pub mod Told
