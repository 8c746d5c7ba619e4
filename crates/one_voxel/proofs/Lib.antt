-- The laws of one voxel.
pub mod Voxels
pub mod Points
