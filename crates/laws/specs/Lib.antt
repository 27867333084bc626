pub mod Clauses
pub mod Bits
pub mod Lowest
