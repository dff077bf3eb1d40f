pub mod Offsets
pub mod Callees
