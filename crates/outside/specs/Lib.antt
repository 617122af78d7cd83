pub mod Below
pub mod Count
pub mod Memory
pub mod Plan
pub mod Source
pub mod Words
