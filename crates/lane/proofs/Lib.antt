-- The laws of a lane's filter.
pub mod Starts
pub mod Lines
pub mod Passes
pub mod Filters
