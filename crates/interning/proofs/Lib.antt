pub mod Values
pub mod Buckets
pub mod Runs
pub mod Walks
pub mod Merges
