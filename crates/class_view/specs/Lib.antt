pub mod Below
pub mod Lists
pub mod Rule
pub mod Known
pub mod Posted
pub mod Found
