pub mod Json
pub mod Items
pub mod Texts
pub mod Fault
