-- The ways through the arms of the fold, by the outcomes of the tests on them: `b` is the outcome of the last.
use mathlib.Core.Path.{◌≡◌, sym, subst}
use mathlib.Core.Bool.{Bool, true, false, cond}
use lib.Ieee.{Float, neg, lt, le}
use Rattle.exact.specs.Rounded.{◌⊕◌, ◌⊖◌, ◌⊗◌, ◌⊘◌, num}
use Rattle.exact.specs.Floor.{floor_f}
use Rattle.border.specs.declared.BorderMode.{BorderMode}
use Rattle.border.specs.declared.BorderMode.TheVariants.{Constant, Mirror, Nearest, Reflect, Wrap, Replicate}
use Rattle.border.specs.Fold.{under, over, mirror_period, reflect_period, reflect_under, fold, fold_constant, fold_mirror, fold_nearest, fold_reflect, fold_wrap, fold_replicate}

-- `under` and `over` with the floor at hand
abbrev pub under_by : Float → Float → Float → Float
under_by period idx f = period ⊗ f ⊕ idx

abbrev pub over_by : Float → Float → Float → Float
over_by period idx f = idx ⊖ period ⊗ f

-- whether a coordinate lies past the far end: at the length or above, in Replicate above the last voxel
abbrev pub past : BorderMode → Float → Float → Bool
past (Constant fill) idx len = le len idx
past Mirror idx len = le len idx
past Nearest idx len = le len idx
past Reflect idx len = le len idx
past Wrap idx len = le len idx
past Replicate idx len = lt (len ⊖ num 1) idx

-- a coordinate from 0 to the far end stays as it is
pub inside : (mode : BorderMode) (idx len : Float) → lt idx (num 0) ≡ false → past mode idx len ≡ false → idx ≡ fold mode idx len
unfolding fold fold_constant fold_mirror fold_nearest fold_reflect fold_wrap fold_replicate
inside (Constant fill) idx len p q = simp (p, q)
inside Mirror idx len p q = simp (p, q)
inside Nearest idx len p q = simp (p, q)
inside Reflect idx len p q = simp (p, q)
inside Wrap idx len p q = simp (p, q)
inside Replicate idx len p q = simp (p, q)

module _ (idx len : Float) where
  pub constant_below : lt idx (num 0) ≡ true → neg (num 1) ≡ fold_constant idx len
  unfolding fold_constant
  constant_below p = simp p

  pub constant_beyond : lt idx (num 0) ≡ false → le len idx ≡ true → neg (num 1) ≡ fold_constant idx len
  unfolding fold_constant
  constant_beyond p q = simp (p, q)

  pub nearest_below : lt idx (num 0) ≡ true → num 0 ≡ fold_nearest idx len
  unfolding fold_nearest
  nearest_below p = simp p

  pub nearest_beyond : lt idx (num 0) ≡ false → le len idx ≡ true → len ⊖ num 1 ≡ fold_nearest idx len
  unfolding fold_nearest
  nearest_beyond p q = simp (p, q)

  pub replicate_below : lt idx (num 0) ≡ true → num 0 ≡ fold_replicate idx len
  unfolding fold_replicate
  replicate_below p = simp p

  pub replicate-beyond : lt idx (num 0) ≡ false → lt (len ⊖ num 1) idx ≡ true → len ⊖ num 1 ≡ fold_replicate idx len
  unfolding fold_replicate
  replicate-beyond p q = simp (p, q)

  pub wrap_below : lt idx (num 0) ≡ true → idx ⊕ (len ⊖ num 1) ⊗ (floor_f (neg idx ⊘ (len ⊖ num 1)) ⊕ num 1) ≡ fold_wrap idx len
  unfolding fold_wrap
  wrap_below p = simp p

  pub wrap_beyond : lt idx (num 0) ≡ false → le len idx ≡ true → over (len ⊖ num 1) idx ≡ fold_wrap idx len
  unfolding fold_wrap
  wrap_beyond p q = simp (p, q)

-- `t` is the coordinate as it stands after the first step
module _ (idx len t : Float) where
  pub mirror_under : t ≡ under (mirror_period len) idx → lt idx (num 0) ≡ true → (b : Bool) → le t (num 1 ⊖ len) ≡ b → cond b (t ⊕ mirror_period len) (neg t) ≡ fold_mirror idx len
  unfolding fold_mirror
  mirror_under e p b q = simp (sym e, p, q)

  pub mirror_over : t ≡ over (mirror_period len) idx → lt idx (num 0) ≡ false → le len idx ≡ true → (b : Bool) → le len t ≡ b → cond b (mirror_period len ⊖ t) t ≡ fold_mirror idx len
  unfolding fold_mirror
  mirror_over e p r b q = simp (sym e, p, r, q)

  pub reflect_over : t ≡ over (reflect_period len) idx → lt idx (num 0) ≡ false → le len idx ≡ true → (b : Bool) → le len t ≡ b → cond b (reflect_period len ⊖ t ⊖ num 1) t ≡ fold_reflect idx len
  unfolding fold_reflect
  reflect_over e p r b q = simp (sym e, p, r, q)

  pub reflect_far : t ≡ under (reflect_period len) idx → lt idx (neg (reflect_period len)) ≡ true → t ≡ reflect_under idx len
  reflect_far e p = simp (sym e, p)

  pub reflect_near : lt idx (neg (reflect_period len)) ≡ false → idx ≡ reflect_under idx len
  reflect_near p = simp p

  pub reflect-under : t ≡ reflect_under idx len → lt idx (num 0) ≡ true → (b : Bool) → lt t (neg len) ≡ b → cond b (t ⊕ reflect_period len) (neg t ⊖ num 1) ≡ fold_reflect idx len
  unfolding fold_reflect
  reflect-under e p b q = simp (p) (subst (λ (x : Float). cond b (t ⊕ reflect_period len) (neg t ⊖ num 1) ≡ cond (lt x (neg len)) (x ⊕ reflect_period len) (neg x ⊖ num 1)) e (simp q))
