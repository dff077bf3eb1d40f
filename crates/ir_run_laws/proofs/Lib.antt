pub mod Steps
pub mod Order
pub mod Operands
pub mod Operations
pub mod Onward
pub mod Composed
pub mod Ledger
pub mod Settled
pub mod Numbers
pub mod Simulated
mod Refused
mod Detour
