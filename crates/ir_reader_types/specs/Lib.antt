pub mod Vectors
pub mod TypeTable
pub mod Tables
pub mod Uses
pub mod Frames
pub mod Heads
pub mod Levels
