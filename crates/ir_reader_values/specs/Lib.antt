pub mod Seen
pub mod View
pub mod Operands
pub mod Between
pub mod Split
