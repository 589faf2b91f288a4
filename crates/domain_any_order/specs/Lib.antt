pub mod AnyOrder
pub mod RawRecords
pub mod ErrorText
