-- One output voxel, worked out afresh: what a call means.
pub mod Call
pub mod Points
-- The code's own bookkeeping. No promise speaks of it.
pub mod Bookkeeping
