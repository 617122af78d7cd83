pub mod Truth
pub mod Numbers
pub mod Lengths
pub mod Say
pub mod Rows
