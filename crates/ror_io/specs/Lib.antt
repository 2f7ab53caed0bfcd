pub mod Files
pub mod Counts
pub mod Calls
pub mod Fetching
pub mod Writing
pub mod ShelfMemory
pub mod SinkMemory
