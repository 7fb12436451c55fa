-- The fold over judged frames, proved for every judge and every sum that is sound; and the judge of accepted frames, which is.
--     Knot      a fold meets its rule
--     Framed    a fold frame by frame, for induction
--     Cut       cut anywhere; what was read is a recording of its own
--     Buffers   any row of buffers
--     Walks     every walk, and a walk through any row of buffers
--     States    the state of a program, portion by portion
--     Settled   a frame with more bytes after it, and with none
--     Frames    the judge of accepted frames, whatever a frame adds
--     Examples  frames, and a fold that counts them
pub mod Knot
pub mod Framed
pub mod Cut
pub mod Buffers
pub mod Walks
pub mod States
pub mod Settled
pub mod Frames
pub mod Examples
