pub mod Widening
pub mod Refusals
pub mod Pushing
pub mod Modulo
pub mod Chains
pub mod Operands
pub mod Split
pub mod Using
