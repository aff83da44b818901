pub mod Boards
pub mod Plays
pub mod Notes
pub mod Closing
pub mod Laws
pub mod Replaced
