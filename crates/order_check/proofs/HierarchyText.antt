pub mod Errors
pub mod Keys
pub mod ClassesAfter
pub mod InOrder
