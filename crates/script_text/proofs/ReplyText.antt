pub mod EscapesUtf8
pub mod Members
