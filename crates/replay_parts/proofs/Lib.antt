-- The laws of the replay.
pub mod Reaching
pub mod Sizes
