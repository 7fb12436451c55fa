pub mod CodeScans
pub mod Results
