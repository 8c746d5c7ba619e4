-- The places of an output, and that a struct can keep what is known of a call.
use Rattle.std.specs.Prelude.{ℕ, ◌*◌, Float}
use Rattle.std.specs.Float.{nan, inf, fin}
use Rattle.std.proofs.Props.{props}
use Rattle.exact.specs.Within.{Bounded}
use Rattle.request.specs.declared.Axes.{Axes}
use Rattle.request.specs.declared.Request.{Request}
use Rattle.refusal.specs.Bookkeeping.{Admitted}

-- the voxels of the output
abbrev pub places : Axes → ℕ
places a = a.x.out * (a.y.out * a.z.out)

-- it is known in one way at most: a bound is a fact of numbers, or there is none
Bounded-prop : (k : ℕ) (x : Float) → IsProp (Bounded k x)
Bounded-prop k nan = hlevel
Bounded-prop k (inf s) = hlevel
Bounded-prop k (fin s m e) = hlevel props

pub Admitted-prop : (r : Request) (a : Axes) (input : ℕ) → IsProp (Admitted r a input)
Admitted-prop r a input = hlevel (props, Bounded-prop)
