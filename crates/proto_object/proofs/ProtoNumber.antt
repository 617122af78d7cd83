pub mod Hints
pub mod Spelling
