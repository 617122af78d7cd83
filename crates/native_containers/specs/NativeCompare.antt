pub mod Containers
pub mod Say
pub mod Rows
