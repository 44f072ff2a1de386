pub mod Pieces
pub mod Dictionaries
pub mod Tables
pub mod Merges
pub mod Stretches
pub mod Cases
