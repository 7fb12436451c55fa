pub mod CodeMeasure
pub mod Results
