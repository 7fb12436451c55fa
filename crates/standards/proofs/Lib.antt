-- The order's demand 2, proved.
--     Osc10       what OSC 1.0 allows is accepted as what it is, and what is written is what it allows
--     Trip        the round trip
--     Streams     both, of edition 2's streams
--     Ignored     Ticket 10: the encoders ignore the fifth numbers
pub mod Osc10
pub mod Trip
pub mod Streams
pub mod Ignored
