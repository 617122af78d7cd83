pub mod Lemmas
pub mod Below
pub mod Adding
pub mod Forms
pub mod Parts
pub mod Shown
pub mod ClassText
