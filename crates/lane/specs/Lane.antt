-- "It is scaled by the gain, then for each pole: causal start, forward pass, anticausal start, backward pass, as in the source. Nearest and Reflect use the reflect starts; the rest mirror." #104: a sixth mode "with the same prefilter" as Nearest. A lane is the list of its numbers.
use Rattle.std.specs.Prelude.{ℕ, zero, suc, ◌-◌, Bool, true, false, cond, List, [], ◌∷◌, map, ltb, eqb, length, get_or, set, Float}
use Rattle.std.specs.Float.{nan}
use Rattle.border.specs.declared.BorderMode.{BorderMode}
use Rattle.border.specs.declared.BorderMode.TheVariants.{Constant, Mirror, Nearest, Reflect, Wrap, Replicate}
use Rattle.exact.specs.Rounded.{◌⊕◌, ◌⊖◌, ◌⊗◌, ◌⊘◌, num}
use Rattle.lists.specs.Tabulate.{tabulate}
use Rattle.poles.specs.declared.Pole.{Pole}
use Rattle.poles.specs.Power.{power}

-- whether the starts are those of Reflect
abbrev pub reflects : BorderMode → Bool
reflects (Constant fill) = false
reflects Mirror = false
reflects Nearest = true
reflects Reflect = true
reflects Wrap = false
reflects Replicate = true

-- the number at place i
abbrev pub at : List Float → ℕ → Float
at c i = get_or c i nan

-- z times z, k times over
unfoldable pub running : Float → ℕ → Float
running z zero = z
running z (suc k) = running z k ⊗ z

-- ---- `init_causal_mirror` where the cut-off is below the length: the first numbers, with the powers of z
unfoldable pub near_sum : Float → List Float → ℕ → Float
unfolding running
near_sum z c zero = at c 0
near_sum z c (suc k) = near_sum z c k ⊕ running z k ⊗ at c (suc k)

-- ---- `init_causal_mirror` elsewhere: the whole lane and its reflection
unfoldable pub returning : Float → ℕ → ℕ → Float
unfolding power
returning z n zero = power z (n - 1) ⊗ power z (n - 1) ⊗ (num 1 ⊘ z)
returning z n (suc k) = returning z n k ⊗ (num 1 ⊘ z)

unfoldable pub whole_sum : Float → List Float → ℕ → Float
unfolding running returning power
whole_sum z c zero = at c 0 ⊕ at c (length c - 1) ⊗ power z (length c - 1)
whole_sum z c (suc k) = whole_sum z c k ⊕ (running z k ⊕ returning z (length c) k) ⊗ at c (suc k)

unfoldable pub init_causal_mirror : Float → ℕ → List Float → Float
unfolding near_sum whole_sum power
init_causal_mirror z cutoff c =
    let n = length c in
    let last = power z (n - 1) in
    cond (ltb cutoff n) (near_sum z c (cutoff - 1)) (whole_sum z c (n - 2) ⊘ (num 1 ⊖ last ⊗ last))

-- ---- `init_causal_reflect`: the source adds into place 0 itself, which its last turn reads back
unfoldable pub reflect_sum : Float → List Float → ℕ → Float
unfolding running power
reflect_sum z c zero = at c 0 ⊕ power z (length c) ⊗ at c (length c - 1)
reflect_sum z c (suc k) =
    let facing = length c - 1 - suc k in
    let other = cond (eqb facing 0) (reflect_sum z c k) (at c facing) in
    reflect_sum z c k ⊕ running z k ⊗ (at c (suc k) ⊕ power z (length c) ⊗ other)

unfoldable pub init_causal_reflect : Float → List Float → Float
unfolding reflect_sum power
init_causal_reflect z c =
    let n = length c in
    let whole = power z n in
    reflect_sum z c (n - 1) ⊗ (z ⊘ (num 1 ⊖ whole ⊗ whole)) ⊕ at c 0

unfoldable pub init_causal : Bool → Pole → List Float → Float
unfolding init_causal_mirror init_causal_reflect
init_causal reflect p c = cond reflect (init_causal_reflect p.z c) (init_causal_mirror p.z p.cutoff c)

-- ---- the forward pass: each number plus z times the one before it, as it now is
unfoldable pub causal_at : Float → List Float → ℕ → Float
causal_at z c zero = at c 0
causal_at z c (suc i) = at c (suc i) ⊕ z ⊗ causal_at z c i

unfoldable pub causal : Float → List Float → List Float
unfolding causal_at
causal z c = tabulate (length c) (causal_at z c)

-- ---- `init_anticausal_mirror` and `init_anticausal_reflect`
unfoldable pub init_anticausal : Bool → Float → List Float → Float
init_anticausal reflect z c =
    let last = at c (length c - 1) in
    cond reflect (last ⊗ (z ⊘ (z ⊖ num 1))) (z ⊘ (z ⊗ z ⊖ num 1) ⊗ (z ⊗ at c (length c - 2) ⊕ last))

-- ---- the backward pass: z times the next number, as it now is, less each; j places from the end
unfoldable pub anticausal_at : Float → List Float → ℕ → Float
anticausal_at z c zero = at c (length c - 1)
anticausal_at z c (suc j) = z ⊗ (anticausal_at z c j ⊖ at c (length c - 1 - suc j))

unfoldable pub anticausal : Float → List Float → List Float
unfolding anticausal_at
anticausal z c = tabulate (length c) (λ i. anticausal_at z c (length c - 1 - i))

-- ---- the four steps of a pole, and the whole filter
unfoldable pub pass_pole : Bool → Pole → List Float → List Float
unfolding init_causal causal init_anticausal anticausal
pass_pole reflect p c =
    let f = causal p.z (set c 0 (init_causal reflect p c)) in
    anticausal p.z (set f (length f - 1) (init_anticausal reflect p.z f))

unfoldable pub pass_poles : Bool → List Pole → List Float → List Float
unfolding pass_pole
pass_poles reflect [] c = c
pass_poles reflect (p ∷ ps) c = pass_poles reflect ps (pass_pole reflect p c)

unfoldable pub filter_lane : Bool → List Pole → Float → List Float → List Float
unfolding pass_poles
filter_lane reflect ps gain c = pass_poles reflect ps (map (λ x. x ⊗ gain) c)
