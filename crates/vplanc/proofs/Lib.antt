pub mod Refusing
pub mod Allowed
