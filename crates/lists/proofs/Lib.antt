-- The laws of lists.
pub mod Tabulated
pub mod Somes
pub mod Stretches
