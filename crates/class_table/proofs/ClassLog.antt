pub mod Followed
pub mod Kept
pub mod Logged
pub mod Lone
pub mod Unnamed
