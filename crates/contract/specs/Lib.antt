pub mod Endings
pub mod Contract
