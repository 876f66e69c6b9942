pub mod RecordLists
