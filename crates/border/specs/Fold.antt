-- "Every mode but Nearest folds the coordinate by `map_coordinates`, with L the length: operations and comparisons in the source's order."
-- Each definition is one arm of that function. Nearest's arm is the clamp of the neighbours; Replicate's, which the Rust does not have, is the clamp of the coordinate.
use Rattle.std.specs.Prelude.{◌||◌, cond, Float}
use Rattle.std.specs.Float.Ieee.{neg, lt, le}
use Rattle.exact.specs.Rounded.{◌⊕◌, ◌⊖◌, ◌⊗◌, ◌⊘◌, num}
use Rattle.exact.specs.Floor.{floor_f}
use Rattle.border.specs.declared.BorderMode.{BorderMode}
use Rattle.border.specs.declared.BorderMode.TheVariants.{Constant, Mirror, Nearest, Reflect, Wrap, Replicate}

-- what is left of a coordinate once whole periods are taken from its size: of one below 0, and of one beyond the far end
abbrev pub under : Float → Float → Float
under period idx = period ⊗ floor_f (neg idx ⊘ period) ⊕ idx

abbrev pub over : Float → Float → Float
over period idx = idx ⊖ period ⊗ floor_f (idx ⊘ period)

-- "Constant: below 0 or at least L becomes -1."
unfoldable pub fold_constant : Float → Float → Float
fold_constant idx len = cond (lt idx (num 0) || le len idx) (neg (num 1)) idx

-- "Mirror: period 2L - 2, about the end voxels."
abbrev pub mirror_period : Float → Float
mirror_period len = num 2 ⊗ len ⊖ num 2

unfoldable pub fold_mirror : Float → Float → Float
fold_mirror idx len =
    let s2 = mirror_period len in
    cond (lt idx (num 0)) (cond (le (under s2 idx) (num 1 ⊖ len)) (under s2 idx ⊕ s2) (neg (under s2 idx)))
    (cond (le len idx) (cond (le len (over s2 idx)) (s2 ⊖ over s2 idx) (over s2 idx)) idx)

-- "Nearest clamps to 0 and L - 1."
unfoldable pub fold_nearest : Float → Float → Float
fold_nearest idx len = cond (lt idx (num 0)) (num 0) (cond (le len idx) (len ⊖ num 1) idx)

-- "Reflect: period 2L, about the outer faces." A coordinate from -2L up is not shortened first.
abbrev pub reflect_period : Float → Float
reflect_period len = num 2 ⊗ len

abbrev pub reflect_under : Float → Float → Float
reflect_under idx len = cond (lt idx (neg (reflect_period len))) (under (reflect_period len) idx) idx

unfoldable pub fold_reflect : Float → Float → Float
fold_reflect idx len =
    let s2 = reflect_period len in
    let t = reflect_under idx len in
    cond (lt idx (num 0)) (cond (lt t (neg len)) (t ⊕ s2) (neg t ⊖ num 1))
    (cond (le len idx) (cond (le len (over s2 idx)) (s2 ⊖ over s2 idx ⊖ num 1) (over s2 idx)) idx)

-- "Wrap: period L - 1."
unfoldable pub fold_wrap : Float → Float → Float
fold_wrap idx len =
    let s = len ⊖ num 1 in
    cond (lt idx (num 0)) (idx ⊕ s ⊗ (floor_f (neg idx ⊘ s) ⊕ num 1)) (cond (le len idx) (over s idx) idx)

-- #104: a mode "that clamps the coordinate to 0 and L - 1 before anything else". Unlike Nearest's, this clamp takes what lies between L - 1 and L too.
unfoldable pub fold_replicate : Float → Float → Float
fold_replicate idx len = cond (lt idx (num 0)) (num 0) (cond (lt (len ⊖ num 1) idx) (len ⊖ num 1) idx)

unfoldable pub fold : BorderMode → Float → Float → Float
unfolding fold_constant fold_mirror fold_nearest fold_reflect fold_wrap fold_replicate
fold (Constant fill) idx len = fold_constant idx len
fold Mirror idx len = fold_mirror idx len
fold Nearest idx len = fold_nearest idx len
fold Reflect idx len = fold_reflect idx len
fold Wrap idx len = fold_wrap idx len
fold Replicate idx len = fold_replicate idx len
