pub mod CodeStart
pub mod FirstText
pub mod Packet
pub mod Results
