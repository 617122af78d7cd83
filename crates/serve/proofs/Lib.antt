pub mod Lemmas
pub mod Below
pub mod OneMore
pub mod Steps
pub mod Answered
