pub mod Packets
pub mod Walk
pub mod Staged
