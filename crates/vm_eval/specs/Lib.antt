pub mod Below
pub mod Say
pub mod Stack
pub mod Runs
pub mod State
pub mod Asks
pub mod Makers
pub mod OfNatives
