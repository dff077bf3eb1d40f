pub mod Mentioned
pub mod Limits
pub mod Longs
pub mod Placed
