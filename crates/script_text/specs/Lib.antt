pub mod Below
pub mod Words
pub mod Forms
pub mod FormWords
pub mod FormParts
pub mod Script
pub mod Sessions
pub mod JsonText
