pub mod Keep
pub mod Flush
pub mod Pass
