pub mod Argument
pub mod CodeClasses
pub mod CodeRead
pub mod CodeParts
pub mod Dirt
pub mod Results
