pub mod Identity
pub mod Turns
