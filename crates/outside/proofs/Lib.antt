pub mod Lemmas
pub mod Below
pub mod Numerals
pub mod Pieces
pub mod SoFar
pub mod NoJob
