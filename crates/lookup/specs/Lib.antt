pub mod Held
pub mod Update
pub mod Limits
pub mod Out
