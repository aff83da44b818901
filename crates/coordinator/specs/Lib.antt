pub mod Refused
pub mod Driving
pub mod Awaited
pub mod Rounds
pub mod Receipts
