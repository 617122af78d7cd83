pub mod Signature
