pub mod Owing
pub mod Served
pub mod Arms
pub mod Tellings
pub mod Alone
pub mod Opens
pub mod Pending
pub mod Left
