pub mod Tests
pub mod Clauses
pub mod Lists
pub mod Bits
pub mod Marks
pub mod Lowest
