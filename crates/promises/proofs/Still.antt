-- A shift by nothing gives the volume back, and computes every voxel.
use Prim.Native.Nat.{ℕ, ◌≤◌, ◌<◌}
use mathlib.Core.Path.{◌≡◌}
use mathlib.Core.List.{List}
use lib.IntN.{pos, +ℤ_idr}
use lib.Dec.{lit≤}
use lib.ListN.{length, get_or}
use lib.Ieee.{Float, nan}
use Rattle.exact.specs.Whole.{Is}
use Rattle.exact.specs.Same.{Same}
use Rattle.border.specs.declared.BorderMode.TheVariants.{Constant}
use Rattle.request.specs.declared.Request.{Request}
use Rattle.refusal.specs.declared.Asked.TheVariants.{Volume}
use Rattle.refusal.specs.Refusals.{shift_checks, number_in}
use Rattle.resample.specs.Call.{shift_call}
use Rattle.promises.specs.Given.{NoneBut}
use Rattle.promises.specs.Place.{Inside, voxel, code}
use Rattle.promises.specs.Moves.{F64s}
use Rattle.promises.proofs.Moving.{whole_shift_moves}

pub shift_by_nothing :
    (r : Request) (input output : List Float) (coverage : List ℕ) (work : List Float) (fill : Float) → r.mode ≡ Constant fill → r.order ≤ 1 → ((i : ℕ) → i < 3 → Is (get_or r.factors i nan) (pos 0)) → F64s input →
    NoneBut (shift_checks Volume r input (length output) (length coverage) (length work)) 9 →
    (number_in (shift_call r input output coverage work).answer ≡ 0)
    × ((i j k : ℕ) → Inside r.dims i j k → Same (voxel r.dims (shift_call r input output coverage work).output i j k) (voxel r.dims input i j k) × (code r.dims (shift_call r input output coverage work).coverage i j k ≡ 0))
shift_by_nothing r input output coverage work fill constant low nothing f64 clear =
    let m = whole_shift_moves r input output coverage work fill (λ i. pos 0) constant low (λ i l. (nothing i l, lit≤ tt)) f64 clear in
    (m.0, λ i j k h. m.1.inside i j k i j k h h (+ℤ_idr (pos i)) (+ℤ_idr (pos j)) (+ℤ_idr (pos k)))
