-- The axes of shifts and zooms that the replay takes are reachable.
use Rattle.std.proofs.Common.{◌≡◌, ℕ, ◌≤◌, sym, subst, arith}
use lib.Ieee.{Float}
use Rattle.exact.specs.Within.{Within}
use Rattle.axis.specs.declared.coordinate.Axis.{Axis}
use Rattle.axis.specs.Coordinate.{shift_axis, zoom_axis}
use Rattle.axis.proofs.Reaches.{pad_within, shift_reaches, zoom_reaches}
use Rattle.replay_parts.specs.Bookkeeping.{Reachable}

module _ {a : Axis} (length pad : ℕ) (h : (2 ≤ length) × ((length ≤ 4096) × (pad ≤ 12))) where
  pub shift_reachable : (shift : Float) → Within 20 shift → a ≡ shift_axis length shift pad → Reachable a
  shift_reachable shift w e = subst Reachable (sym e) (record { least = omega arith; most = omega arith; bound = λ i l. shift_reaches length shift pad i w l; pad = pad_within h.1.1 })

  pub zoom_reachable : (output : ℕ) → 2 ≤ output → output ≤ 4096 → a ≡ zoom_axis length output pad → Reachable a
  zoom_reachable output l m e = subst Reachable (sym e) (record { least = omega arith; most = omega arith; bound = λ i k. zoom_reaches length output pad i h.1.0 (λ _. l) m k; pad = pad_within h.1.1 })
