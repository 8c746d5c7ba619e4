-- The values: the places of a row, written in blocks that may reach past its end; and the volume by the table and the flags of its last axis.
use Prim.Native.Nat.{ℕ, zero, suc, ◌+◌, ◌*◌, ◌/◌, ◌%◌, ◌≤◌, ◌<◌}
use native.Mathlib.Nat.{add-zero, eq-or-lt_of_le, mod-lt, mul-le-mul_right}
use native.Mathlib.Omega.{arith}
use mathlib.Core.Path.{◌≡◌, refl, sym, ap, ◌∙◌, subst}
use mathlib.Core.Logic.{⊎_elim}
use mathlib.Core.Bool.{Bool, false, ◌&&◌, cond}
use mathlib.Core.List.{List, ◌∷◌}
use lib.Arith.{digits_div, digits_mod}
use lib.Dec.{eqb}
use lib.ListN.{length, get_or, set, replicate, length-set}
use lib.Seq.{get_or-set_same, get_or-set_other}
use lib.Ieee.{Float, nan}
use borrow.Author.Tests.{ne_eqb}
use Rattle.lists.specs.Tabulate.{tabulate}
use Rattle.lists.specs.Bookkeeping.{Filled}
use Rattle.lists.proofs.Tabulated.{get_d_tabulate, tabulate_same}
use Rattle.border.specs.declared.BorderMode.{BorderMode}
use Rattle.axis.specs.declared.coordinate.Axis.{Axis}
use Rattle.axis.specs.declared.point.Point.{Point}
use Rattle.axis.specs.Point.{is_kept, point_at}
use Rattle.axis.specs.Bookkeeping.{Reached}
use Rattle.axis.proofs.Points.{kept_by_mark}
use Rattle.voxels.specs.Sum.{Tap, sum_y, sum_z, sum_at}
use Rattle.voxels.specs.declared.source.Source.{Source}
use Rattle.voxels.specs.declared.sum.Four.{Four}
use Rattle.voxels.specs.declared.table.Table.{Table}
use Rattle.voxels.specs.Bookkeeping.{column, lane, at_lane, Planes, Tabled}
use Rattle.coverage.specs.Coverage.{kept_at, drop_value, x_of, y_of, z_of}
use Rattle.voxels.specs.Voxel.{tap_of, computed, voxel_at, values}
use Rattle.voxels.proofs.Tables.{point_inside}
use Rattle.voxels.specs.Bookkeeping.{with_voxel, with_four, computed_of, row_value, plane_value, volume_value}

-- ---- the first k places, those that there are
abbrev pub Upto : {A : Type 0} → (ℕ → A) → A → List A → ℕ → Type 0
Upto f d l k = (m : ℕ) → m < k → m < length l → get_or l m d ≡ f m

pub put_upto : {A : Type 0} (f : ℕ → A) (d : A) (l : List A) (k next : ℕ) (v : A) → next ≡ k + 1 → v ≡ f k → Upto f d l k → Upto f d (set l k v) next
put_upto f d l k next v n e p m h b =
    let in-l : m < length l = omega (arith, length-set l k v) in
    let le : m ≤ k = omega arith in
    ⊎_elim (λ q. rw q (get_or-set_same l k v d (omega arith) ∙ e)) (λ c. get_or-set_other l k m v d (λ z. omega arith) ∙ p m c in-l) (eq-or-lt_of_le le)

-- the four values of a block
pub put_block :
    (f : ℕ → Float) (flags : List Bool) (dropped : Float) (g : ℕ → Float) (l : List Float) (o : ℕ) (v : Four Float) → ((k : ℕ) → f k ≡ cond (get_or flags k false) (g k) dropped) → ((j : ℕ) → at_lane v j ≡ g (o + lane j)) → Upto f nan l o →
    {l' : List Float} → l' ≡ with_four flags dropped l o v → Upto f nan l' (o + 4)
put_block f flags dropped g l o v e s p q =
    let by : (k : ℕ) (w : Float) → w ≡ g k → cond (get_or flags k false) w dropped ≡ f k = λ k w q. ap (λ (x : Float). cond (get_or flags k false) x dropped) q ∙ sym (e k) in
    let put = with_voxel flags dropped in
    let l1 : List Float = put l o v.a in
    let l2 : List Float = put l1 (o + 1) v.b in
    let l3 : List Float = put l2 (o + 2) v.c in
    subst (λ (r : List Float). Upto f nan r (o + 4)) (sym q)
    (put_upto f nan l3 (o + 3) (o + 4) _ (omega arith) (by (o + 3) v.d (s 3))
    (put_upto f nan l2 (o + 2) (o + 3) _ (omega arith) (by (o + 2) v.c (s 2))
    (put_upto f nan l1 (o + 1) (o + 2) _ (omega arith) (by (o + 1) v.b (s 1))
    (put_upto f nan l o (o + 1) _ refl (by o v.a (s 0 ∙ ap g (add-zero o))) p))))

-- ---- sums see only the neighbours that they add
module _ (xs : List Float) (plane row n : ℕ) (x y : Tap) (z z' : Tap) (at_same : (k : ℕ) → k < n → z.at k ≡ z'.at k) (weight-same : (k : ℕ) → k < n → z.weight k ≡ z'.weight k) where
  sums_same : (k : ℕ) → k ≤ n → sum_z xs plane row n x y z k ≡ sum_z xs plane row n x y z' k
  unfolding sum_z
  sums_same zero h = refl
  sums_same (suc k) h = λ i. sum_y xs plane row n x y (at_same k h i) (weight-same k h i) (sums_same k (omega arith) i) n

  pub sum_same : sum_at xs plane row n x y z ≡ sum_at xs plane row n x y z'
  unfolding sum_at
  sum_same = sums_same n (omega arith)

-- ---- the two kinds of order
module _ (order : ℕ) (xs : List Float) (plane row : ℕ) (x y z : Tap) where
  pub computed_copy : order ≡ 0 → {place : ℕ} → place ≡ z.at 0 → get_or xs (x.at 0 * plane + (y.at 0 * row + place)) nan ≡ computed order xs plane row x y z
  unfolding computed
  computed_copy e q = rw q (rw e refl)

  pub computed-sum : (order ≡ 0 → ⊥) → sum_at xs plane row (order + 1) x y z ≡ computed order xs plane row x y z
  unfolding computed
  computed-sum n = simp (ne_eqb order 0 n)

-- ---- the neighbours of a point name stretches of `size` places, within as many as the axis is long
pub point_planes : (order : ℕ) (mode : BorderMode) (a : Axis) (i : ℕ) (at : List ℕ) (size count n : ℕ) → Reached order a i → at ≡ (point_at order mode a i).at → count ≡ a.len * size → Planes at n size count
point_planes order mode a i at size count n r e c k h =
    let inside : get_or at k 0 < a.len = subst (λ (l : List ℕ). get_or l k 0 < a.len) (sym e) (point_inside order mode a i k r) in
    subst (λ (m : ℕ). (get_or at k 0 + 1) * size ≤ m) (sym c) (mul-le-mul_right size (omega arith))

-- ---- the mark of a record says whether its index is kept
pub marked_kept : (order : ℕ) (mode : BorderMode) (a : Axis) (i : ℕ) {t : Point} → t ≡ point_at order mode a i → is_kept t.mark ≡ kept_at mode a i
unfolding kept_at
marked_kept order mode a i e = kept_by_mark order mode a i refl e

-- ---- a row that one of the records drops
replicated : {A : Type 0} (n : ℕ) (x : A) → replicate n x ≡ tabulate n (λ _. x)
unfolding tabulate
replicated zero x = refl
replicated (suc n) x = ap (λ (l : List _). x ∷ l) (replicated n x)

pub row_dropped : (mode : BorderMode) (s : Source) (t : Table) (x y : Point) {n : ℕ} {dropped : Float} → n ≡ t.width → dropped ≡ drop_value mode → (is_kept x.mark && is_kept y.mark) ≡ false → replicate n dropped ≡ tabulate t.width (row_value mode s t x y)
row_dropped mode s t x y w d e =
    (λ i. replicate (w i) (d i)) ∙ replicated t.width (drop_value mode)
    ∙ (λ i. tabulate t.width (λ k. cond (sym e i && get_or t.kept k false) (computed_of s (tap_of x) (tap_of y) (column t k)) (drop_value mode)))

-- ---- a row that was written is row j of its plane, a plane plane i of the volume
module _ (mode : BorderMode) (s : Source) (t : Table) (ya : Axis) where
  pub row_filled : (x y : Point) (j : ℕ) (ys : List Float) → y ≡ point_at s.order mode ya j → ys ≡ tabulate t.width (row_value mode s t x y) → Filled (λ (m : ℕ). plane_value mode s t x ya (j * t.width + m)) nan ys t.width
  row_filled x y j ys p e m h =
      ap (λ (l : List Float). get_or l m nan) e ∙ get_d_tabulate t.width (row_value mode s t x y) nan m h
      ∙ (λ i. row_value mode s t x (p i) m)
      ∙ (λ i. row_value mode s t x (point_at s.order mode ya (sym (digits_div j h) i)) (sym (digits_mod j h) i))

  pub plane_filled :
      (xa : Axis) (x : Point) (i : ℕ) (ys : List Float) → x ≡ point_at s.order mode xa i → ys ≡ tabulate (ya.out * t.width) (plane_value mode s t x ya) →
      Filled (λ (m : ℕ). volume_value mode s t xa ya (i * (ya.out * t.width) + m)) nan ys (ya.out * t.width)
  plane_filled xa x i ys p e m h =
      ap (λ (l : List Float). get_or l m nan) e ∙ get_d_tabulate (ya.out * t.width) (plane_value mode s t x ya) nan m h
      ∙ (λ q. plane_value mode s t (p q) ya m)
      ∙ (λ q. plane_value mode s t (point_at s.order mode xa (sym (digits_div i h) q)) ya (sym (digits_mod i h) q))

-- ---- with the table of the last axis, the volume is what document 01 says
pub by_table :
    (mode : BorderMode) (s : Source) (t : Table) (xa ya za : Axis) → 1 ≤ za.out → s.plane ≡ ya.len * za.len → s.row ≡ za.len → t.width ≡ za.out → Tabled s.order mode za t za.out →
    tabulate (xa.out * (ya.out * t.width)) (volume_value mode s t xa ya) ≡ values s.order mode xa ya za s.numbers.now
unfolding values voxel_at computed
by_table mode s t xa ya za r p f w q =
    let o : s.order ≤ 5 = s.order_bound in
    let order = s.order in
    let xs = s.numbers.now in
    let size = ya.out * za.out in
    (λ i. tabulate (xa.out * (ya.out * w i)) (λ m.
    let x = point_at order mode xa (m / (ya.out * w i)) in
    let y = point_at order mode ya (m % (ya.out * w i) / w i) in
    let k = m % (ya.out * w i) % w i in
    cond (is_kept x.mark && is_kept y.mark && get_or t.kept k false) (computed order xs (p i) (f i) (tap_of x) (tap_of y) (column t k)) (drop_value mode)))
    ∙ tabulate_same (xa.out * size) _ _ (λ m _.
    let x = tap_of (point_at order mode xa (x_of size m)) in
    let y = tap_of (point_at order mode ya (y_of size za.out m)) in
    let z = z_of size za.out m in
    let b : z < za.out = mod-lt (m % size) r in
    λ i.
    cond (marked_kept order mode xa (x_of size m) refl i && marked_kept order mode ya (y_of size za.out m) refl i && q.kept z b i)
    (cond (eqb order 0) (get_or xs (x.at 0 * (ya.len * za.len) + (y.at 0 * za.len + q.places z 0 b (omega arith) i)) nan)
    (sum_same xs (ya.len * za.len) za.len (order + 1) x y (column t z) (tap_of (point_at order mode za z)) (λ j h. q.places z j b (omega arith)) (λ j h. q.weights z j b (omega arith)) i))
    (drop_value mode))
