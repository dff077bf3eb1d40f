pub mod Tokens
mod KeptRuns
mod NestedTypes
mod LeftOuts
mod KeptLayout
mod Readings
mod ModuleLists
mod Rules
mod Paths
