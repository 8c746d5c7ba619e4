-- The laws of the fold, and the theorems that hold it to the manual (`Landing`), say how many voxels the manual lets stand (`Once`), and where Reflect loses a coordinate (`Outside`).
pub mod Arms
pub mod Clamped
pub mod Periods
pub mod Rests
pub mod Landing
pub mod Once
pub mod Strips
pub mod Outside
pub mod Worked
