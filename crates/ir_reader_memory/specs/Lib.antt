pub mod Alignments
pub mod Offsets
pub mod Calls
