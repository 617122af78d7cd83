pub mod Merge
pub mod Lists
pub mod Faults
pub mod Steps
