pub mod Seen
pub mod Standards
pub mod Trip
pub mod Streams
pub mod Ignored
