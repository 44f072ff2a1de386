pub mod Values
pub mod Buckets
pub mod Interning
pub mod Merging
pub mod Promises
