pub mod Spelled
pub mod Items
