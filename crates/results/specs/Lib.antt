pub mod Differs
pub mod Ends
pub mod Results
