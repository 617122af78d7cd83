pub mod Comparisons
pub mod Values
pub mod Say
pub mod Rows
