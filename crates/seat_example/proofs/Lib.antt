pub mod Lemmas
pub mod Below
mod Names
