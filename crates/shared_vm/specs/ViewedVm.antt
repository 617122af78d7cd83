pub mod Viewed
pub mod Published
