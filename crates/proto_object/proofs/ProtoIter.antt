pub mod At
pub mod Collect
pub mod Search
