-- The steps of a pole make its pass over each lane, and the passes of the poles make the filter.
use Prim.Native.Nat.{ℕ, ◌+◌, ◌<◌}
use mathlib.Core.Path.{◌≡◌, refl, ap}
use mathlib.Core.Bool.{Bool}
use mathlib.Core.List.{List, [], ◌∷◌, map}
use native.Mathlib.Numerals.{add-one}
use lib.ListN.{length, get_or, drop}
use lib.Seq.{drop-cons}
use lib.Ieee.{Float}
use Rattle.exact.specs.Rounded.{◌⊗◌}
use Rattle.std.proofs.lemmas.List.{map-id}
use Rattle.poles.specs.declared.Pole.{Pole}
use Rattle.lane.specs.Lane.{causal, anticausal, pass_pole, pass_poles, filter_lane}
use Rattle.lane.specs.Bookkeeping.{causal_start, anticausal_start}
use Rattle.lane.proofs.Passes.{map_then}

pub pole_steps : (reflect : Bool) (p : Pole) (lanes : List (List Float)) → map (anticausal p.z) (map (anticausal_start reflect p.z) (map (causal p.z) (map (causal_start reflect p) lanes))) ≡ map (pass_pole reflect p) lanes
unfolding pass_pole
pole_steps reflect p [] = refl
pole_steps reflect p (c ∷ lanes) = ap (λ (l : List (List Float)). pass_pole reflect p c ∷ l) (pole_steps reflect p lanes)

module _ (reflect : Bool) (ps : List Pole) (lanes : List (List Float)) where
  pub scaled : (gain : Float) → map (pass_poles reflect ps) (map (map (λ x. x ⊗ gain)) lanes) ≡ map (filter_lane reflect ps gain) lanes
  unfolding filter_lane
  scaled gain = map_then (pass_poles reflect ps) (map (λ x. x ⊗ gain)) (filter_lane reflect ps gain) lanes (λ k d l. refl)

  pub next_pole : (i : ℕ) (d : Pole) → i < length ps → map (pass_poles reflect (drop (i + 1) ps)) (map (pass_pole reflect (get_or ps i d)) lanes) ≡ map (pass_poles reflect (drop i ps)) lanes
  unfolding pass_poles
  next_pole i d h =
      let here : drop i ps ≡ get_or ps i d ∷ drop (i + 1) ps = rw add-one (drop-cons ps i d h) in
      rw here (map_then (pass_poles reflect (drop (i + 1) ps)) (pass_pole reflect (get_or ps i d)) (pass_poles reflect (get_or ps i d ∷ drop (i + 1) ps)) lanes (λ k e l. refl))

  pub no_pole : map (pass_poles reflect []) lanes ≡ lanes
  unfolding pass_poles
  no_pole = map-id lanes
