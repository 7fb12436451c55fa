pub mod Outcome
pub mod CodePrepare
pub mod AfterNo
pub mod Results
