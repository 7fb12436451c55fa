pub mod Encodable
pub mod Starts
