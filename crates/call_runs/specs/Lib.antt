pub mod Says
pub mod Runs
pub mod Whole
