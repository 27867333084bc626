pub mod Buffers
pub mod Left
pub mod Lengths
