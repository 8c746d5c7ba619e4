-- The laws of the pad.
pub mod Edges
