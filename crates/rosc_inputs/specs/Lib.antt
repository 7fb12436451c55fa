pub mod CodeTotals
pub mod Results
