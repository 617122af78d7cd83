pub mod Texts
pub mod Say
