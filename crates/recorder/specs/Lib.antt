pub mod Ran
pub mod Short
pub mod Streams
pub mod Faults
pub mod Answers
pub mod Calls
pub mod Drives
