pub mod Lemmas
pub mod Below
pub mod Entered
pub mod Fits
pub mod Times
pub mod ProtoCompare
pub mod NativeNumbers
pub mod NativeRepeats
