pub mod Little
pub mod Bits
pub mod Puts
pub mod Back
