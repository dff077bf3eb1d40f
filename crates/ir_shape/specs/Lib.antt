pub mod Shape
pub mod Placed
pub mod Narrow
pub mod Modules
