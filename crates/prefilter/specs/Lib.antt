-- The prefilter: the filter of a volume, axis by axis.
pub mod Volume
-- The code's own bookkeeping. No promise speaks of it.
pub mod Bookkeeping
