-- Poles, gain and powers.
pub mod Poles
pub mod Roots
pub mod Decimals
pub mod Power
