pub mod Lemmas
pub mod Below
mod Free
mod Sent
