pub mod Below
pub mod Journal
pub mod Book
pub mod Turns
pub mod Work
pub mod SharedRun
pub mod ViewedVm
