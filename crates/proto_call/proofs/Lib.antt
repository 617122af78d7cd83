pub mod Lemmas
pub mod Below
pub mod Decide
pub mod Filling
pub mod Entered
pub mod Unequal
pub mod EvalForms
pub mod ClassMake
