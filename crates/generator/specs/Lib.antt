pub mod Below
pub mod Draws
pub mod Commands
pub mod Summary
