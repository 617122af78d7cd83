pub mod Lemmas
pub mod Below
pub mod Groups
pub mod Way
pub mod Turns
pub mod Commands
pub mod Rests
pub mod OfNatives
