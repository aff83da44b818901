pub mod Names
pub mod Asks
pub mod Requests
pub mod Queues
pub mod Jobs
