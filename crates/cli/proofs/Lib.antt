pub mod Enough
pub mod Texts
pub mod Spellings
pub mod Behind
