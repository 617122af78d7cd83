pub mod Change
pub mod Shown
pub mod Refused
pub mod Following
pub mod Logged
