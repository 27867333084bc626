pub mod Padded
pub mod Read
