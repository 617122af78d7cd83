pub mod Parts
pub mod Say
pub mod Asks
