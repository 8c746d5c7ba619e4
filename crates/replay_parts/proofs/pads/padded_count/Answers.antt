-- `replay_parts::pads::padded_count` meets its contract: the product fits.
use Rattle.std.proofs.Common.{◌≡◌, ℕ, ◌≤◌, arith}
use Rattle.limits.specs.Limits.{wide_of}
use Rattle.limits.proofs.Singles.{edge_most}
use Rattle.replay_parts.proofs.Sizes.{plane_fits, volume_fits}
use Rattle.replay_parts.proofs.pads.padded_count.Goals as goal

few : {n w : ℕ} → n ≤ 256 → w ≡ wide_of n → w ≤ 280
few {n} l e = omega (arith, edge_most n)

pub overflow_mul-result : goal.overflow_mul-result
overflow_mul-result c = plane_fits _ _ (few (c.requires 1 (omega arith)) c.wide_of-2.ensures) (few (c.requires 2 (omega arith)) c.wide_of-3.ensures)

pub overflow_mul-result-2 : goal.overflow_mul-result-2
overflow_mul-result-2 c = volume_fits _ _ _ (few (c.requires 0 (omega arith)) c.wide_of.ensures) (few (c.requires 1 (omega arith)) c.wide_of-2.ensures) (few (c.requires 2 (omega arith)) c.wide_of-3.ensures)
