pub mod Items
pub mod Slices
pub mod Views
pub mod Say
pub mod Rows
