pub mod States
pub mod StateText
pub mod PollRule
