pub mod Plan
pub mod All
