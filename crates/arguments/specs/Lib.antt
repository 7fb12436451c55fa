pub mod Arguments
pub mod CodeReadings
pub mod Results
