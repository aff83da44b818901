pub mod Locked
pub mod Systems
pub mod Asked
pub mod Coordinated
pub mod Driven
pub mod Pairs
pub mod Acted
pub mod Weighed
