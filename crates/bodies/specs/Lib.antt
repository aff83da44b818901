pub mod Bodies
pub mod Census
