pub mod Below
pub mod Known
pub mod History
pub mod Rule
pub mod Plays
pub mod Places
pub mod Seats
pub mod Ending
