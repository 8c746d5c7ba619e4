-- The coordinate of an output index: by the steps that the code takes.
use Rattle.std.proofs.Common.{◌≡◌, ℕ, ◌≤◌, Bool, true, false, cond, ◌&&◌, ltb, sym, refl, ap, ◌∙◌, subst, lit≤, le-ltb}
use lib.Ieee.{Float}
use Rattle.limits.specs.Limits.{single, edge_of}
use Rattle.limits.proofs.Singles.{edge_single, edge_most}
use Rattle.exact.specs.Rounded.{◌⊕◌, ◌⊖◌, ◌⊗◌, num}
use Rattle.border.specs.Fold.{fold}
use Rattle.border.specs.declared.BorderMode.{BorderMode}
use Rattle.border.specs.declared.BorderMode.TheVariants.{Nearest}
use Rattle.axis.specs.declared.coordinate.Axis.{Axis}
use Rattle.axis.specs.declared.coordinate.When.{When}
use Rattle.axis.specs.declared.coordinate.When.TheVariants.{Never, WithPad, BeforePad}
use Rattle.axis.specs.Coordinate.{unpadded, coordinate, folds, settled_by, settled, pads, has_pad, pad_of}
use Rattle.axis.specs.Bookkeeping.{folds_on}

-- there is no pad in a mode that has none, none at orders 0 and 1, and none on a single slice
module _ (mode : BorderMode) (prefilter : Bool) (order length : ℕ) where
  pub unpadded_pad : has_pad mode prefilter order ≡ false → pad_of mode prefilter order length ≡ 0
  unpadded_pad e = simp e

  pub no_pad : pads mode ≡ false → pad_of mode prefilter order length ≡ 0
  no_pad e = unpadded_pad (ap (λ (b : Bool). prefilter && ltb 1 order && b) e ∙ go (prefilter && ltb 1 order))
    where
      go : (t : Bool) → (t && false) ≡ false
      go true = refl
      go false = refl

  pub low_pad : order ≤ 1 → pad_of mode prefilter order length ≡ 0
  low_pad l = unpadded_pad (ap (λ (b : Bool). prefilter && b && pads mode) (le-ltb 1 order l) ∙ go prefilter)
    where
      go : (t : Bool) → (t && false && pads mode) ≡ false
      go true = refl
      go false = refl

  pub single_pad : single length ≡ true → pad_of mode prefilter order length ≡ 0
  single_pad e = ap (λ (n : ℕ). cond (has_pad mode prefilter order) n 0) (edge_single length e) ∙ go (has_pad mode prefilter order)
    where
      go : (t : Bool) → ◌≡◌ {A = ℕ} (cond t 0 0) 0
      go true = refl
      go false = refl

  pub pad_most : {pad : ℕ} → pad ≡ pad_of mode prefilter order length → pad ≤ 12
  pad_most e = subst (λ (n : ℕ). n ≤ 12) (sym e) (go (has_pad mode prefilter order))
    where
      go : (t : Bool) → cond t (edge_of length) 0 ≤ 12
      go true = edge_most length
      go false = lit≤ tt

-- ---- what is settled on a single slice, and on a longer axis
module _ (mode : BorderMode) (a : Axis) (i : ℕ) where
  pub single-settled : single a.len ≡ true → settled mode a i ≡ coordinate a i
  unfolding settled
  single-settled e = simp e

  pub long_settled : single a.len ≡ false → settled mode a i ≡ settled_by (folds mode) mode a i
  unfolding settled
  long_settled e = simp e

-- Nearest lets the coordinate stand on both
pub nearest_stands : (a : Axis) (i : ℕ) → settled Nearest a i ≡ coordinate a i
nearest_stands a i = by (single a.len) refl
  where
    by : (t : Bool) → single a.len ≡ t → settled Nearest a i ≡ coordinate a i
    by true e = single-settled Nearest a i e
    by false e = long_settled Nearest a i e

-- with the float of the index at hand
module _ (mode : BorderMode) (a : Axis) (i : ℕ) (f : Float) (e : f ≡ num i) where
  by_index : (f ⊕ a.shift) ⊗ a.ratio ≡ unpadded a i
  unfolding unpadded
  by_index = ap (λ (x : Float). (x ⊕ a.shift) ⊗ a.ratio) e

  padded_index : (f ⊕ a.shift) ⊗ a.ratio ⊕ a.pad ≡ coordinate a i
  unfolding coordinate
  padded_index = ap (λ (x : Float). x ⊕ a.pad) by_index

  -- by when the axis is folded
  module _ {when : When} (w : when ≡ folds_on a.len mode) where
    settles : {k : When} → when ≡ k → settled_by k mode a i ≡ settled mode a i
    unfolding settled
    settles k = ap (λ (k : When). settled_by k mode a i) (sym k ∙ w) ∙ by (single a.len)
      where
        by : (t : Bool) → settled_by (cond t Never (folds mode)) mode a i ≡ cond t (coordinate a i) (settled_by (folds mode) mode a i)
        by true = refl
        by false = refl

    pub settles_unfolded : when ≡ Never → (f ⊕ a.shift) ⊗ a.ratio ⊕ a.pad ≡ settled mode a i
    settles_unfolded k = padded_index ∙ settles k

    pub settles_padded : when ≡ WithPad → (l r : Float) → l ≡ num a.len → r ≡ fold mode ((f ⊕ a.shift) ⊗ a.ratio ⊕ a.pad) l → r ≡ settled mode a i
    settles_padded k l r n h = h ∙ (λ j. fold mode (padded_index j) (n j)) ∙ settles k

    pub settles_before : when ≡ BeforePad → (l two r : Float) → l ≡ num a.len → two ≡ num 2 → r ≡ fold mode ((f ⊕ a.shift) ⊗ a.ratio) (l ⊖ two ⊗ a.pad) → r ⊕ a.pad ≡ settled mode a i
    settles_before k l two r n t h = ap (λ (x : Float). x ⊕ a.pad) (h ∙ (λ j. fold mode (by_index j) (n j ⊖ t j ⊗ a.pad))) ∙ settles k
