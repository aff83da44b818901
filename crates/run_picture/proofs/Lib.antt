pub mod LinesTold
pub mod DrawnMore
pub mod BytesTold
pub mod MarksAdded
pub mod LineNumbers
