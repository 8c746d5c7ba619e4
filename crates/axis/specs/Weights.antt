-- "Weights follow `build_splines`, associated as printed; the last is 1.0 minus the sum of the others, added left to right from 0.0. The distance is measured from the floor (odd order) or from the floor after adding 0.5 (even order)."
use Rattle.std.specs.Prelude.{ℕ, ◌%◌, cond, List, [], ◌∷◌, ◌++◌, take, replicate, ◌==◌, Float}
use Rattle.limits.specs.Limits.{single}
use Rattle.exact.specs.Rounded.{◌⊕◌, ◌⊖◌, ◌⊗◌, ◌⊘◌, num, half, decimal}
use Rattle.exact.specs.Floor.{floor_f}

-- #106: an axis of length 1 "contributes its one voxel with a single weight of exactly 1". So does every axis at order 0, and that is the order that such an axis is read at
abbrev pub order_on : ℕ → ℕ → ℕ
order_on len order = cond (single len) 0 order

-- the floor that distances and neighbours start from
unfoldable pub base : ℕ → Float → Float
unfolding floor_f
base order to = floor_f (cond (order % 2 == 1) to (to ⊕ half))

abbrev pub square : Float → Float
square x = x ⊗ x

-- the pieces that orders 4 and 5 print twice
abbrev pub quartic : Float → Float
quartic y = y ⊗ (y ⊗ (y ⊗ (num 5 ⊖ y) ⊘ num 6 ⊖ decimal 125 100) ⊕ num 5 ⊘ num 24) ⊕ num 55 ⊘ num 96

abbrev pub quintic_outer : Float → Float
quintic_outer y = y ⊗ (y ⊗ (y ⊗ (y ⊗ (y ⊘ num 24 ⊖ decimal 375 1000) ⊕ decimal 125 100) ⊖ decimal 175 100) ⊕ decimal 625 1000) ⊕ decimal 425 1000

abbrev pub quintic_inner : Float → Float
quintic_inner x = square x ⊗ (square x ⊗ (decimal 25 100 ⊖ x ⊘ num 12) ⊖ half) ⊕ decimal 55 100

-- the weights of each order at distance x, but for the last
unfoldable pub leading1 : Float → List Float
leading1 x = num 1 ⊖ x ∷ []

unfoldable pub leading2 : Float → List Float
leading2 x = half ⊗ square (half ⊖ x) ∷ decimal 75 100 ⊖ x ⊗ x ∷ []

unfoldable pub leading3 : Float → List Float
leading3 x =
    let z = num 1 ⊖ x in
    z ⊗ z ⊗ z ⊘ num 6 ∷ (x ⊗ x ⊗ (x ⊖ num 2) ⊗ num 3 ⊕ num 4) ⊘ num 6 ∷ (z ⊗ z ⊗ (z ⊖ num 2) ⊗ num 3 ⊕ num 4) ⊘ num 6 ∷ []

unfoldable pub leading4 : Float → List Float
leading4 x =
    let t = x ⊗ x in
    square (square (half ⊖ x)) ⊘ num 24 ∷ quartic (num 1 ⊕ x) ∷ t ⊗ (t ⊗ decimal 25 100 ⊖ decimal 625 1000) ⊕ num 115 ⊘ num 192 ∷ quartic (num 1 ⊖ x) ∷ []

unfoldable pub leading5 : Float → List Float
leading5 x =
    let y = num 1 ⊖ x in
    y ⊗ square y ⊗ square y ⊘ num 120 ∷ quintic_outer (x ⊕ num 1) ∷ quintic_inner x ∷ quintic_inner y ∷ quintic_outer (y ⊕ num 1) ∷ []

-- none at order 0, whose one weight is then 1.0
unfoldable pub leading : ℕ → Float → List Float
unfolding leading1 leading2 leading3 leading4 leading5
leading order x =
    cond (order == 1) (leading1 x) (cond (order == 2) (leading2 x) (cond (order == 3) (leading3 x) (cond (order == 4) (leading4 x) (cond (order == 5) (leading5 x) []))))

unfoldable pub sum_from : Float → List Float → Float
sum_from sum [] = sum
sum_from sum (w ∷ ws) = sum_from (sum ⊕ w) ws

-- with the last: 1.0 less the others
unfoldable pub completed : List Float → List Float
unfolding sum_from
completed ws = ws ++ (num 1 ⊖ sum_from (num 0) ws ∷ [])

-- six places, of which the first order + 1 count
abbrev pub six_floats : List Float → List Float
six_floats ws = take 6 (ws ++ replicate 6 (num 0))

unfoldable pub build_splines : ℕ → Float → List Float
unfolding base leading completed
build_splines order to = six_floats (completed (leading order (to ⊖ base order to)))
