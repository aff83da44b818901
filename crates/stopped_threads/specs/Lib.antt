pub mod Held
pub mod Holding
pub mod Refused
pub mod Reclaiming
pub mod Serves
pub mod Brought
