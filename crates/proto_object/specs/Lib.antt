pub mod Below
pub mod Texts
pub mod Classes
pub mod Say
pub mod Rows
pub mod ProtoNumber
pub mod ProtoItems
pub mod ProtoIter
