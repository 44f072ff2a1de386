pub mod Held
pub mod Readable
