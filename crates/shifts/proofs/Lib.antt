-- Shifting a table.
--     Lookable   the records that `look` gives a value of
--     Records    one record, shifted: what the code writes
--     Loop       the turns of the loop that shifts a table
--     Answers    the answers of the call
--     Items      what each record of a shifted table says
--     Tables     a shifted table, record by record
--     Sums       shifts of a table add up
--     Demand     demand 1 of the call, and its C function
--     Examples   records and tables, computed
pub mod Lookable
pub mod Records
pub mod Loop
pub mod Answers
pub mod Items
pub mod Tables
pub mod Sums
pub mod Demand
pub mod Examples
