pub mod Behind
pub mod Publishing
