pub mod Below
pub mod Status
pub mod Headline
pub mod Ran
