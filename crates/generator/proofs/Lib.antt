pub mod Lemmas
pub mod Below
pub mod OneByOne
pub mod Sorts
