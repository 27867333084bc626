pub mod Taking
pub mod Closing
pub mod Coming
