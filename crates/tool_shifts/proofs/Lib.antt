-- The loop of the command shift, proved.
--     Slides         a turn keeps its numbers low, and moves on
--     Loops          a loop that ends has written the slide of what was read
pub mod Slides
pub mod Loops
