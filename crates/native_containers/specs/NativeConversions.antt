pub mod Texts
pub mod Makers
pub mod Numbers
pub mod Say
pub mod Rows
