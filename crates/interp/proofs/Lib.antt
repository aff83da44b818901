pub mod Sequence
pub mod Next
pub mod Stands
pub mod Goes
pub mod Goings
