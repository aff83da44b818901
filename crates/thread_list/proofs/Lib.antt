pub mod Popped
pub mod Paired
pub mod Turned
pub mod Made
pub mod Crosses
pub mod InOrder
pub mod Answering
