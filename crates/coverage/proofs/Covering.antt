-- The coverage: the codes of three axes joined, row by row and plane by plane.
use Prim.Native.Nat.{ℕ, ◌+◌, ◌*◌, ◌%◌, ◌≤◌, ◌<◌}
use native.Mathlib.Nat.{mod-lt, div-lt_iff_lt-mul}
use mathlib.Core.Path.{◌≡◌, refl, sym, ap, ◌∙◌}
use mathlib.Core.Bool.{Bool, true, false, ◌&&◌, ◌||◌}
use mathlib.Core.List.{List}
use lib.Arith.{digits_div, digits_mod}
use lib.Dec.{eqb}
use lib.ListN.{length, get_or}
use Rattle.lists.specs.Tabulate.{tabulate}
use Rattle.lists.specs.Bookkeeping.{Filled}
use Rattle.lists.proofs.Tabulated.{length-tabulate, get_d_tabulate, tabulate_same}
use Rattle.lists.proofs.Stretches.{some_place}
use Rattle.border.specs.declared.BorderMode.{BorderMode}
use Rattle.border.specs.declared.BorderMode.TheVariants.{Constant, Mirror, Nearest, Reflect, Wrap, Replicate}
use Rattle.axis.specs.declared.coordinate.Axis.{Axis}
use Rattle.axis.specs.Folded.{folded_at}
use Rattle.coverage.specs.declared.codes.Code.{Code}
use Rattle.coverage.specs.declared.codes.Code.TheVariants.{Computed}
use Rattle.coverage.specs.Coverage.{number_of_code, drop_code, kept_at, code_by, own_code, own_codes, x_of, y_of, z_of}
use Rattle.coverage.specs.Bookkeeping.{code_of, axis_code, joined, code_in_plane, code_by_axes}

-- ---- what two axes say, joined
-- the code of a dropped voxel is neither of the others
pub drop_apart : (mode : BorderMode) → (eqb (drop_code mode) 0 ≡ false) × (eqb (drop_code mode) 3 ≡ false)
drop_apart (Constant fill) = (refl, refl)
drop_apart Mirror = (refl, refl)
drop_apart Nearest = (refl, refl)
drop_apart Reflect = (refl, refl)
drop_apart Wrap = (refl, refl)
drop_apart Replicate = (refl, refl)

joined-codes : (mode : BorderMode) (k l f g : Bool) → joined (code_of mode k f) (code_of mode l g) ≡ code_of mode (k && l) (f || g)
joined-codes mode true l false g = refl
joined-codes mode true true true true = refl
joined-codes mode true true true false = refl
joined-codes (Constant fill) true false true g = refl
joined-codes Mirror true false true g = refl
joined-codes Nearest true false true g = refl
joined-codes Reflect true false true g = refl
joined-codes Wrap true false true g = refl
joined-codes Replicate true false true g = refl
joined-codes (Constant fill) false l f g = refl
joined-codes Mirror false l f g = refl
joined-codes Nearest false l f g = refl
joined-codes Reflect false l f g = refl
joined-codes Wrap false l f g = refl
joined-codes Replicate false l f g = refl

number_by : (mode : BorderMode) (k f : Bool) → number_of_code (code_of mode k f) ≡ code_by mode k f
number_by mode true true = refl
number_by mode true false = refl
number_by mode false f = refl

pub own_joined : (order : ℕ) (mode : BorderMode) (xa ya za : Axis) (x y z : ℕ) → number_of_code (joined (joined (axis_code order mode xa x) (axis_code order mode ya y)) (axis_code order mode za z)) ≡ own_code order mode xa ya za x y z
unfolding own_code
own_joined order mode xa ya za x y z =
    let some = folded_at order mode xa x || folded_at order mode ya y in
    let all = kept_at mode xa x && kept_at mode ya y in
    ap (λ (c : Code). number_of_code (joined c (axis_code order mode za z))) (joined-codes mode (kept_at mode xa x) (kept_at mode ya y) (folded_at order mode xa x) (folded_at order mode ya y))
    ∙ ap number_of_code (joined-codes mode all (kept_at mode za z) some (folded_at order mode za z))
    ∙ number_by mode (all && kept_at mode za z) (some || folded_at order mode za z)

-- ---- a row that was written is row j of its plane
pub row_filled : (first others : Code) (ys zs : List Code) (j : ℕ) (l : List ℕ) → others ≡ joined first (get_or ys j Computed) → l ≡ tabulate (length zs) (λ k. number_of_code (joined others (get_or zs k Computed))) → Filled (λ (m : ℕ). code_in_plane first ys zs (j * length zs + m)) 0 l (length zs)
row_filled first others ys zs j l o e m h =
    let row = length zs in
    ap (λ (l : List ℕ). get_or l m 0) e ∙ get_d_tabulate row (λ k. number_of_code (joined others (get_or zs k Computed))) 0 m h
    ∙ (λ i. number_of_code (joined (o i) (get_or zs m Computed)))
    ∙ (λ i. number_of_code (joined (joined first (get_or ys (sym (digits_div j h) i) Computed)) (get_or zs (sym (digits_mod j h) i) Computed)))

-- a plane that was written is plane x of the volume
pub plane_filled : (xs ys zs : List Code) (x : ℕ) (l : List ℕ) → l ≡ tabulate (length ys * length zs) (code_in_plane (get_or xs x Computed) ys zs) → Filled (λ (m : ℕ). code_by_axes xs ys zs (x * (length ys * length zs) + m)) 0 l (length ys * length zs)
plane_filled xs ys zs x l e m h =
    let plane = length ys * length zs in
    ap (λ (l : List ℕ). get_or l m 0) e ∙ get_d_tabulate plane (code_in_plane (get_or xs x Computed) ys zs) 0 m h
    ∙ (λ i. code_in_plane (get_or xs (sym (digits_div x h) i) Computed) ys zs (sym (digits_mod x h) i))

-- ---- with the codes of the three axes the volume is the coverage
module _ (order : ℕ) (mode : BorderMode) (xa ya za : Axis) (some : 1 ≤ za.out) where
  abbrev codes : Axis → List Code
  codes a = tabulate a.out (axis_code order mode a)

  by_axes : tabulate (xa.out * (ya.out * za.out)) (λ m. number_of_code (joined (joined (get_or (codes xa) (x_of (ya.out * za.out) m) Computed) (get_or (codes ya) (y_of (ya.out * za.out) za.out m) Computed)) (get_or (codes za) (z_of (ya.out * za.out) za.out m) Computed))) ≡ own_codes order mode xa ya za
  unfolding own_codes
  by_axes =
      let row = za.out in
      let plane = ya.out * row in
      tabulate_same (xa.out * plane) _ (λ m. own_code order mode xa ya za (x_of plane m) (y_of plane row m) (z_of plane row m))
      (λ m l.
      let some-plane : 0 < plane = some_place xa.out plane l in
      let x : x_of plane m < xa.out = (div-lt_iff_lt-mul some-plane).1 l in
      let y : y_of plane row m < ya.out = (div-lt_iff_lt-mul some).1 (mod-lt m some-plane) in
      let z : z_of plane row m < za.out = mod-lt (m % plane) some in
      (λ i. number_of_code (joined (joined (get_d_tabulate xa.out (axis_code order mode xa) Computed (x_of plane m) x i) (get_d_tabulate ya.out (axis_code order mode ya) Computed (y_of plane row m) y i)) (get_d_tabulate za.out (axis_code order mode za) Computed (z_of plane row m) z i))) ∙ own_joined order mode xa ya za (x_of plane m) (y_of plane row m) (z_of plane row m))

  pub all_covered : {xs ys zs : List Code} → xs ≡ codes xa → ys ≡ codes ya → zs ≡ codes za → tabulate (length xs * (length ys * length zs)) (code_by_axes xs ys zs) ≡ own_codes order mode xa ya za
  all_covered p q r =
      let x : length (codes xa) ≡ xa.out = length-tabulate xa.out (axis_code order mode xa) in
      let y : length (codes ya) ≡ ya.out = length-tabulate ya.out (axis_code order mode ya) in
      let z : length (codes za) ≡ za.out = length-tabulate za.out (axis_code order mode za) in
      (λ i. tabulate (length (p i) * (length (q i) * length (r i))) (code_by_axes (p i) (q i) (r i)))
      ∙ (λ i. tabulate (x i * (y i * z i)) (λ m. number_of_code (joined (joined (get_or (codes xa) (x_of (y i * z i) m) Computed) (get_or (codes ya) (y_of (y i * z i) (z i) m) Computed)) (get_or (codes za) (z_of (y i * z i) (z i) m) Computed))))
      ∙ by_axes
