pub mod Value
pub mod Look
pub mod Results
