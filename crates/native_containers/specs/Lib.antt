pub mod Below
pub mod Take
pub mod Asking
pub mod Say
pub mod NativeTexts
pub mod NativeCompare
pub mod NativeItems
pub mod NativeConversions
