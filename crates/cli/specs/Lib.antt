pub mod CommandLine
pub mod Faults
pub mod Check
pub mod Run
