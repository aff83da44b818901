pub mod Done
pub mod Putting
pub mod Telling
pub mod Work
pub mod Called
