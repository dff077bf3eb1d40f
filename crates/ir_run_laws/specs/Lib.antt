pub mod Examples
pub mod Courses
pub mod Respect
pub mod Tolls
pub mod Simulation
pub mod Kinds
