pub mod KeepLaws
pub mod FlushLaws
pub mod Definition
pub mod Rows
pub mod PassLaws
