-- The laws of sums, tables and sweeps.
pub mod Sums
pub mod Tables
pub mod Sweeping
