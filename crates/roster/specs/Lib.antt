pub mod Meaning
pub mod Layer
pub mod Asked
pub mod Bits
pub mod Rows
pub mod Moves
pub mod Layered
pub mod Joints
