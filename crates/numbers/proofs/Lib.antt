pub mod LowestFree
pub mod Opens
