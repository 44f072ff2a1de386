pub mod Same
pub mod Loops
pub mod Passed
pub mod Chains
