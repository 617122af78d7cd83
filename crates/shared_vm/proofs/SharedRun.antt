pub mod Entries
pub mod Mixes
pub mod Crews
pub mod Texts
pub mod Sent
