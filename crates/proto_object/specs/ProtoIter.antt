pub mod Iteration
pub mod Say
pub mod Rows
