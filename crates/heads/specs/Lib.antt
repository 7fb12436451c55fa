pub mod Heads
pub mod Results
