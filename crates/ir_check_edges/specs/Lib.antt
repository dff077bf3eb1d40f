pub mod Agreeing
pub mod Counted
pub mod Incoming
pub mod Phis
pub mod Targets
