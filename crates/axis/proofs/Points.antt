-- The record of an output index, by the steps that the code takes; and when its mark is Beside.
use Rattle.std.proofs.Common.{◌≡◌, ℕ, zero, suc, ◌<◌, ◌≤◌, Bool, true, false, cond, ◌&&◌, T, eqb, leb, List, length, get_or, sym, refl, ap, ◌∙◌, subst, true≢false, suc-le-suc, zero-le, not-suc-le-zero, arith, eq-eqb, ne_eqb}
use native.Mathlib.Decide.{dec_lt}
use mathlib.Core.Logic.{dite}
use lib.Ieee.{Float, neg, of_int, lt, le}
use borrow.Author.Tests.{lt-leb}
use Rattle.limits.specs.Limits.{single}
use Rattle.limits.proofs.Singles.{two_long, long_two}
use Rattle.exact.specs.Rounded.{◌⊕◌, num}
use Rattle.exact.specs.Within.{Within}
use Rattle.exact.proofs.Value.{of_true}
use Rattle.exact.proofs.Above.{Above}
use Rattle.lists.specs.Bookkeeping.{Filled}
use Rattle.lists.proofs.Tabulated.{is_tabulate}
use Rattle.border.specs.declared.BorderMode.{BorderMode}
use Rattle.border.specs.Fold.{fold}
use Rattle.axis.specs.declared.coordinate.Axis.{Axis}
use Rattle.axis.specs.Coordinate.{settled, kept}
use Rattle.axis.specs.Weights.{order_on, build_splines}
use Rattle.axis.specs.Neighbours.{first_neighbour, outside, spline_mode, neighbour, neighbour_index}
use Rattle.axis.specs.Bookkeeping.{Indexes}
use Rattle.axis.specs.declared.point.Mark.TheVariants.{Reads, Dropped, Beside}
use Rattle.axis.specs.declared.point.Point.{Point}
use Rattle.axis.specs.Point.{is_kept, empty, neighbours, kept_point, point_at, beside_at}
use Rattle.axis.specs.Bookkeeping.{Reached, Kept}
use Rattle.axis.proofs.Reaches.{settled_within}
use Rattle.axis.proofs.Inside.{index_asks}

-- ---- one neighbour
module _ (mode : BorderMode) (len : ℕ) (first : Float) (k : ℕ) {f : Float} (e : f ≡ num k) where
  pub folded : {out : Bool} {l r : Float} {s : BorderMode} → out ≡ true → l ≡ num len → s ≡ spline_mode mode → r ≡ fold s (first ⊕ f) l → r ≡ neighbour mode out len first k
  unfolding neighbour
  folded o p q h = h ∙ (λ i. fold (q i) (first ⊕ e i) (p i)) ∙ simp o

  pub plain : {out : Bool} → out ≡ false → first ⊕ f ≡ neighbour mode out len first k
  unfolding neighbour
  plain o = ap (λ (x : Float). first ⊕ x) e ∙ simp o

pub outside-beyond : (order len : ℕ) (first : Float) {f l : Float} → lt first (num 0) ≡ false → f ≡ num order → l ≡ num len → le l (first ⊕ f) ≡ outside order len first
outside-beyond order len first p e q = (λ i. le (q i) (first ⊕ e i)) ∙ simp p

-- ---- the neighbours: the first k places are theirs, and the rest is 0
abbrev pub place_of : BorderMode → Bool → ℕ → ℕ → Float → ℕ → ℕ
place_of mode out order len first k = cond (leb k order) (neighbour_index mode out len first k) 0

pub record Placed (f : ℕ → ℕ) (at : List ℕ) (k : ℕ) : Type 0 where
  pub six : length at ≡ 6
  pub done : Filled f 0 at k
  pub rest : (j : ℕ) → k ≤ j → get_or at j 0 ≡ 0

pub placed_all : (mode : BorderMode) (order len : ℕ) (first : Float) (at : List ℕ) (k : ℕ) → order < k → Placed (place_of mode (outside order len first) order len first) at k → at ≡ neighbours mode order len first
unfolding neighbours
placed_all mode order len first at k l p =
    is_tabulate (place_of mode (outside order len first) order len first) 0 at 6 p.six (λ m h. dite (dec_lt m k) (λ b. p.done m b) (λ n. p.rest m (omega arith) ∙ sym (none m (omega arith))))
  where
    none : (m : ℕ) → order < m → place_of mode (outside order len first) order len first m ≡ 0
    none m h = simp (lt-leb m order h)

-- ---- the kept point
pub above_kept : (to : Float) → T (kept to) → Above to
unfolding neg of_int
above_kept to h = h

pub not-outside : (order : ℕ) {t : Bool} → t ≡ false → (eqb order 0 && t) ≡ false
not-outside order e = ap (λ (b : Bool). eqb order 0 && b) e ∙ never (eqb order 0)
  where
    never : (b : Bool) → (b && false) ≡ false
    never true = refl
    never false = refl

pub not_order_zero : (order : ℕ) (t : Bool) → (order ≡ 0 → ⊥) → (eqb order 0 && t) ≡ false
not_order_zero order t n = simp (ne_eqb order 0 n)

-- its neighbours are folded on an axis of 2 voxels or more alone
pub kept_two : {order len : ℕ} {to : Float} → Kept order len to → (eqb order 0 && outside order len (first_neighbour order to)) ≡ false → outside order len (first_neighbour order to) ≡ true → 2 ≤ len
kept_two {order} {len} {to} p t o = p.two (some order (ap (λ (b : Bool). eqb order 0 && b) (sym o) ∙ t))
  where
    some : (n : ℕ) → (eqb n 0 && true) ≡ false → 1 ≤ n
    some zero e = absurd (true≢false e)
    some (suc n) e = suc-le-suc zero-le

module _ (order : ℕ) (mode : BorderMode) (len : ℕ) (to : Float) {first : Float} (e : first ≡ first_neighbour order to) where
  pub kept-outside : order ≡ 0 → outside order len first ≡ true → empty Beside ≡ kept_point order mode len to
  unfolding kept_point
  kept-outside o t = simp (eq-eqb order 0 o, subst (λ (x : Float). outside order len x ≡ true) e t)

  pub kept_inside : (eqb order 0 && outside order len first) ≡ false → {w : List Float} {n : List ℕ} → w ≡ build_splines order to → n ≡ neighbours mode order len first → record { mark = Reads; weight = w; at = n } ≡ kept_point order mode len to
  unfolding kept_point
  kept_inside t {w} {n} p q =
      let whole : n ≡ neighbours mode order len (first_neighbour order to) = q ∙ ap (λ (x : Float). neighbours mode order len x) e in
      let test : (eqb order 0 && outside order len (first_neighbour order to)) ≡ false = subst (λ (x : Float). (eqb order 0 && outside order len x) ≡ false) e t in
      rw (p, whole, test) refl

  -- what the casts of its neighbours ask
  pub kept_asks : Kept order len to → (eqb order 0 && outside order len first) ≡ false → {out : Bool} → out ≡ outside order len first → (k : ℕ) → k ≤ order → Indexes (neighbour mode out len first k)
  kept_asks p t {out} o k l =
      subst (λ (x : Float). Indexes (neighbour mode out len x k)) (sym e)
      (subst (λ (t : Bool). Indexes (neighbour mode t len (first_neighbour order to) k)) (sym (o ∙ ap (λ (x : Float). outside order len x) e)) (index_asks order mode len to k p.upto (kept_two p (subst (λ (x : Float). (eqb order 0 && outside order len x) ≡ false) e t)) p.most p.bound (above_kept to p.above) l))

-- ---- the order that an axis is read at
module _ (len order : ℕ) where
  pub long_order : 2 ≤ len → order_on len order ≡ order
  long_order l = simp (two_long len l)

  pub order_most : {k : ℕ} → order ≤ k → order_on len order ≤ k
  order_most {k} l = go (single len)
    where
      go : (t : Bool) → cond t 0 order ≤ k
      go true = zero-le
      go false = l

  pub above_order_0 : 1 ≤ len → 1 ≤ order_on len order → 2 ≤ len
  above_order_0 l o = go (single len) refl o
    where
      go : (t : Bool) → single len ≡ t → 1 ≤ cond t 0 order → 2 ≤ len
      go true e h = absurd (not-suc-le-zero h)
      go false e h = long_two len e l

-- ---- the record of an output index
module _ (order : ℕ) (mode : BorderMode) (a : Axis) (i : ℕ) {to : Float} (e : to ≡ settled mode a i) where
  pub reached_kept : Reached order a i → kept to ≡ true → Kept (order_on a.len order) a.len to
  reached_kept r t = record {
    upto = order_most a.len order r.upto;
    least = r.least;
    two = above_order_0 a.len order r.least;
    most = r.most;
    bound = subst (λ (x : Float). Within 30 x) (sym e) (settled_within mode r);
    above = of_true (kept to) t;
  }

  pub point-kept : {o : ℕ} → o ≡ order_on a.len order → kept to ≡ true → kept_point o mode a.len to ≡ point_at order mode a i
  unfolding point_at
  point-kept n t = (λ j. kept_point (n j) mode a.len (e j)) ∙ simp (ap (λ (x : Float). kept x) (sym e) ∙ t)

  pub point_dropped : kept to ≡ false → empty Dropped ≡ point_at order mode a i
  unfolding point_at
  point_dropped t = simp (ap (λ (x : Float). kept x) (sym e) ∙ t)

  -- the mark says whether it is kept
  pub kept_by_mark : {t : Point} → t ≡ point_at order mode a i → is_kept t.mark ≡ kept (settled mode a i)
  unfolding point_at kept_point
  kept_by_mark {t} e = ap (λ (p : Point). is_kept p.mark) e ∙ go (kept (settled mode a i)) (eqb o 0 && outside o a.len (first_neighbour o (settled mode a i))) _ _
    where
      o : ℕ
      o = order_on a.len order

      go : (k o : Bool) (w : List Float) (n : List ℕ) → is_kept (cond k (cond o (empty Beside) (record { mark = Reads; weight = w; at = n })) (empty Dropped)).mark ≡ k
      go true true w n = refl
      go true false w n = refl
      go false o w n = refl

-- ---- refusal 9 at an output index, by the coordinate and the first neighbour at hand
module _ (mode : BorderMode) (a : Axis) (i : ℕ) where
  pub beside_by : {to first : Float} → to ≡ settled mode a i → kept to ≡ true → first ≡ first_neighbour 0 to → outside 0 a.len first ≡ beside_at mode a i
  unfolding beside_at
  beside_by {to} {first} e t f = ap (λ (b : Bool). b && outside 0 a.len first) (sym t) ∙ (λ j. kept (e j) && outside 0 a.len ((f ∙ ap (λ (x : Float). first_neighbour 0 x) e) j))

  pub dropped_by : {to : Float} → to ≡ settled mode a i → kept to ≡ false → false ≡ beside_at mode a i
  unfolding beside_at
  dropped_by {to} e t = ap (λ (b : Bool). b && outside 0 a.len (first_neighbour 0 (settled mode a i))) (sym t ∙ ap (λ (x : Float). kept x) e)
