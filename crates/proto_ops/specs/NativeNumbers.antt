pub mod Numbers
pub mod Say
