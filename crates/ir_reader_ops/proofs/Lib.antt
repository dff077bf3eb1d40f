pub mod Beginnings
pub mod Attached
pub mod Decided
