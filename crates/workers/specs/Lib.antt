pub mod Marks
pub mod Ended
pub mod Summaries
pub mod Replacing
pub mod Jobs
pub mod Sizes
