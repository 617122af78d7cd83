pub mod Lemmas
pub mod Below
mod Journals
mod Steps
pub mod Histories
mod Working
pub mod SharedRun
pub mod ViewedVm
