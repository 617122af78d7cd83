pub mod Spaces
pub mod Making
pub mod Parts
pub mod EachBase
pub mod Telling
pub mod Descriptors
pub mod Places
pub mod OfTypeNatives
