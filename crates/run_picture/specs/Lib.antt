pub mod Told
pub mod Marks
pub mod Drawn
pub mod Runs
pub mod Reading
pub mod Faults
pub mod Outcome
pub mod Words
