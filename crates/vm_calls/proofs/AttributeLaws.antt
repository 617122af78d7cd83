pub mod Keeping
pub mod Standing
pub mod Loading
pub mod Fast
pub mod Answering
