pub mod Ended
pub mod Held
pub mod Parts
pub mod Bases
pub mod Owned
pub mod Followed
pub mod Setting
pub mod Collected
