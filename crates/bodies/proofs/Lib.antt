pub mod Keeping
pub mod Pairs
