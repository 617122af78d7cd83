pub mod Lists
pub mod Said
pub mod Steps
