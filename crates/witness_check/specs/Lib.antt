pub mod Streams
pub mod Owed
pub mod Seen
pub mod Walk
