pub mod Say
pub mod Counts
pub mod Rows
