pub mod Inside
pub mod Repr
