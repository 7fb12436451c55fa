pub mod CodeFill
pub mod Results
