-- The program's walk.
--     Taken   what a step of the walk says of the index of its buffer
--     Stands  how a walk stands after a step
--     Runs    a row of steps is a walk, and writes the index of the whole
--     Checks  a row of checks, and a walk whose parts are checked
--     Examples  a run that meets the hypotheses
pub mod Taken
pub mod Stands
pub mod Runs
pub mod Checks
pub mod Examples
