pub mod Trees
pub mod Tests
pub mod Facts
pub mod Checked
pub mod Carry
pub mod Moves
pub mod Cells
pub mod Known
