-- Ticket 1: OSC 1.0 on a stream, in edition 2.
--     Frames      one frame: accepted as what it holds, written, and read back
--     Lists       a stream of frames: accepted as its packets, and read back as the trees that were written
--     Examples    streams that meet the hypotheses
pub mod Frames
pub mod Lists
pub mod Examples
