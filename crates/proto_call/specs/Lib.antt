pub mod Below
pub mod Say
pub mod Rows
pub mod Bodies
pub mod ObjectNatives
pub mod EvalForms
pub mod ClassMake
