pub mod Below
pub mod Store
pub mod Inside
