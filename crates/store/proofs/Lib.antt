pub mod Copies
pub mod Slices
pub mod Admits
pub mod Grown
pub mod Cells
