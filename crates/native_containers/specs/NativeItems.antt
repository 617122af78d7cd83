pub mod Places
pub mod Items
pub mod Iterators
pub mod Say
pub mod Rows
