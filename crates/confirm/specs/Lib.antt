pub mod Parts
pub mod Orders
pub mod Told
pub mod Ran
