pub mod Steps
pub mod Asking
pub mod Hashes
pub mod Joined
pub mod Contents
pub mod Given
pub mod Made
pub mod Heirs
