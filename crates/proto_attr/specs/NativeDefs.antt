pub mod Definitions
pub mod Members
