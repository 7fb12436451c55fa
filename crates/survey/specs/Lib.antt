pub mod CodeSurvey
pub mod Surveys
