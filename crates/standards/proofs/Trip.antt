-- Demand 2: what `encode` writes decodes to the same tree, with nothing left over.
--     Tables      the numbers of a table of bytes fit a record; tables of the same tree hold the same
--     RoundTrip   the theorem, over the contracts
--     Examples    tables that meet the hypotheses
pub mod Tables
pub mod RoundTrip
pub mod Examples
