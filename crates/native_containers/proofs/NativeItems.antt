pub mod Arguments
pub mod Steps
pub mod Standing
pub mod Searches
pub mod Natives
pub mod Iterating
pub mod Ranges
pub mod InPlace
