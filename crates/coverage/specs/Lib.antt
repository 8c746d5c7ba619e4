-- Codes and counts.
pub mod Coverage
-- The code's own bookkeeping. No promise speaks of it.
pub mod Bookkeeping
