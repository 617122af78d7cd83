pub mod Lemmas
pub mod Below
pub mod Keeping
pub mod Looking
pub mod Feeding
pub mod Absent
pub mod Alike
