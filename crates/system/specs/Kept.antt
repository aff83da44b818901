pub mod Threads
pub mod Acts
pub mod Places
pub mod Opening
pub mod Tells
pub mod Censuses
pub mod Records
pub mod Asking
