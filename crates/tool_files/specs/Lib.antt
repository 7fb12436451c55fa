pub mod CodeRecords
