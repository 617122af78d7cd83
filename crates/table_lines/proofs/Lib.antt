pub mod Lemmas
pub mod Below
pub mod MachineLines
