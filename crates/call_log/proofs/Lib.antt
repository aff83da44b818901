pub mod Clean
pub mod Cuts
