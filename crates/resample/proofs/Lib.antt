-- The laws of the four entries.
pub mod Preparing
pub mod Answering
pub mod Filtering
