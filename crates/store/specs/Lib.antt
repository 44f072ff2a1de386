pub mod Faults
pub mod Stores
pub mod Calls
pub mod Promises
pub mod Movable
pub mod Cases
