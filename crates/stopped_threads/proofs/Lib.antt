mod Apart
pub mod Each
pub mod ServeLemmas
pub mod Published
pub mod Staying
