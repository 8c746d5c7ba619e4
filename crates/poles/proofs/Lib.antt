-- The laws of powers and poles, and the theorems on the stored numbers (`Roots`, `Decimals`, `Gains`).
pub mod Roots
pub mod Decimals
pub mod Gains
pub mod Powers
