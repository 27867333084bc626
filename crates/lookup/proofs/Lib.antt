pub mod Walk
pub mod Limits
pub mod Bridge
pub mod Decided
pub mod Branch
pub mod Payload
pub mod Framed
pub mod Out
