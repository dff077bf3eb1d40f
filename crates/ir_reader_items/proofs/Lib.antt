pub mod Swaps
pub mod Depths
pub mod Typed
pub mod Branches
pub mod Outlines
pub mod Once
pub mod Longs
pub mod Loops
