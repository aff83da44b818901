pub mod Steps
pub mod Seats
pub mod Refused
