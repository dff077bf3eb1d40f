pub mod Known
pub mod Put
pub mod Small
pub mod Definitions
pub mod Stepping
pub mod Prepared
