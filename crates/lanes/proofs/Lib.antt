-- The laws of lanes in a buffer.
pub mod Grids
pub mod Alongs
pub mod Writing
pub mod Replacements
