pub mod Cuts
pub mod Fronts
pub mod Taken
pub mod Deeds
pub mod Steps
pub mod Telling
