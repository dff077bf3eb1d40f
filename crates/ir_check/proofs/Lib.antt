pub mod Narrowed
pub mod Causes
