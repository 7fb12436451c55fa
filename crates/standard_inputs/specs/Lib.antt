pub mod CodeStreams
pub mod Results
