pub mod Mix
pub mod JournalText
pub mod Crew
