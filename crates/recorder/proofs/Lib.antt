mod Rise
mod Owned
pub mod Crosses
