-- What each output voxel holds.
pub mod Sum
pub mod Voxel
-- The code's own bookkeeping. No promise speaks of it.
pub mod Bookkeeping
