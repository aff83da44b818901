pub mod Driven
pub mod Fits
pub mod Hands
pub mod Roles
pub mod LockSteps
pub mod Sends
