pub mod Texts
pub mod Pieces
pub mod MemoryPieces
pub mod Parts
pub mod Appends
