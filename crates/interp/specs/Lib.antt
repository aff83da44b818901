pub mod Trace
pub mod Chain
pub mod Left
pub mod Moves
pub mod Stepped
