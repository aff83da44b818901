pub mod Landings
pub mod Endings
pub mod Crosses
pub mod Lines
pub mod Replacements
pub mod Jobs
