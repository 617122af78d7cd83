pub mod Below
mod Free
