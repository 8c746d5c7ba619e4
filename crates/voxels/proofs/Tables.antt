-- The table of the last axis: one column more, and that each of its places names one of the row.
use Prim.Native.Nat.{ℕ, ◌+◌, ◌*◌, ◌/◌, ◌%◌, ◌≤◌, ◌<◌}
use native.Mathlib.Nat.{eq-or-lt_of_le, not-suc-le-zero}
use native.Mathlib.Decide.{dec_lt, ℕ_discrete}
use native.Mathlib.Omega.{arith}
use mathlib.Core.Path.{◌≡◌, refl, sym, ap, ◌∙◌, subst}
use mathlib.Core.Logic.{dite, inl, inr}
use mathlib.Core.Bool.{Bool, true, false, ◌&&◌, cond}
use mathlib.Core.List.{List}
use lib.Dec.{leb, eqb}
use lib.ListN.{length, get_or, set, replicate, length-set, get_or-replicate, get_or-eq_default}
use lib.Seq.{get_or-set_same, get_or-set_other}
use lib.Ieee.{Float, nan}
use borrow.Author.Tests.{leb-true}
use Rattle.exact.specs.Within.{Within}
use Rattle.exact.proofs.Above.{Above}
use Rattle.lists.specs.Tabulate.{tabulate}
use Rattle.lists.specs.Bookkeeping.{Filled}
use Rattle.coverage.specs.Coverage.{kept_at}
use Rattle.voxels.specs.declared.table.Table.{Table}
use Rattle.lists.proofs.Tabulated.{get_d_tabulate, length-tabulate}
use Rattle.border.specs.declared.BorderMode.{BorderMode}
use Rattle.axis.specs.declared.coordinate.Axis.{Axis}
use Rattle.axis.specs.declared.point.Point.{Point}
use Rattle.axis.specs.Coordinate.{settled, kept}
use Rattle.axis.specs.Weights.{order_on, build_splines}
use Rattle.axis.specs.Neighbours.{first_neighbour, outside, neighbour_index}
use Rattle.axis.specs.declared.point.Mark.{Mark}
use Rattle.axis.specs.declared.point.Mark.TheVariants.{Reads, Dropped, Beside}
use Rattle.axis.specs.Point.{empty, neighbours, kept_point, point_at}
use Rattle.axis.specs.Bookkeeping.{Reached}
use Rattle.axis.proofs.Points.{place_of, above_kept, kept_two, reached_kept}
use Rattle.axis.proofs.Inside.{index_inside}
use Rattle.voxels.specs.Bookkeeping.{Tabled, Column}

-- ---- a column, one place more
pub column-none : {A : Type 0} (d : A) (i : ℕ) (c l : List A) → Column d i c l l 0
column-none d i c l = record { same = refl; set = λ k h. absurd (not-suc-le-zero h); rest = λ m _. refl }

pub column_more : {A : Type 0} (d : A) (i : ℕ) (c l₀ l : List A) (k : ℕ) (v : A) → v ≡ get_or c k d → k < 6 → i < 4096 → length l ≡ 24580 → Column d i c l₀ l k → Column d i c l₀ (set l (k * 4096 + i) v) (k + 1)
column_more d i c l₀ l k v q K I e p = record {
  same = length-set l (k * 4096 + i) v ∙ p.same;
  set = λ j h.
      let le : j ≤ k = omega arith in
      elim (eq-or-lt_of_le le) [
        | inl z ↦ rw z (get_or-set_same l (k * 4096 + i) v d (omega arith) ∙ q)
        | inr b ↦ get_or-set_other l (k * 4096 + i) (j * 4096 + i) v d (λ z. omega arith) ∙ p.set j b
      ];
  rest = λ m n. get_or-set_other l (k * 4096 + i) m v d (λ z. n k (omega arith) z) ∙ p.rest m (λ j h z. n j (omega arith) z);
}

-- ---- a record names places of its axis
empty_inside : (mark : Mark) (k L : ℕ) → 1 ≤ L → get_or (empty mark).at k 0 < L
empty_inside mark k L l = subst (λ (n : ℕ). n < L) (sym (dite (dec_lt k 6) (λ h. get_or-replicate 6 k 0 0 h) (λ n. get_or-eq_default (replicate 6 0) 0 {n = k} (omega arith)))) (omega arith)

past-tabulate : {A : Type 0} (n : ℕ) (f : ℕ → A) (d : A) (i : ℕ) → n ≤ i → get_or (tabulate n f) i d ≡ d
past-tabulate n f d i h = get_or-eq_default (tabulate n f) d {n = i} (omega (arith, length-tabulate n f))

pub neighbours_inside : (order : ℕ) (mode : BorderMode) (L : ℕ) (to : Float) (k : ℕ) → order ≤ 5 → 1 ≤ L → (outside order L (first_neighbour order to) ≡ true → 2 ≤ L) → L ≤ 4120 → Within 30 to → Above to → get_or (neighbours mode order L (first_neighbour order to)) k 0 < L
unfolding neighbours
neighbours_inside order mode L to k o one two top w a =
    dite (dec_lt k 6)
    (λ h. subst (λ (n : ℕ). n < L) (sym (get_d_tabulate 6 (place_of mode (outside order L (first_neighbour order to)) order L (first_neighbour order to)) 0 k h)) (go (leb k order) (leb-true k order)))
    (λ n. subst (λ (n : ℕ). n < L) (sym (past-tabulate 6 (place_of mode (outside order L (first_neighbour order to)) order L (first_neighbour order to)) 0 k (omega arith))) (omega arith))
  where
    go : (t : Bool) → (t ≡ true → k ≤ order) → cond t (neighbour_index mode (outside order L (first_neighbour order to)) L (first_neighbour order to) k) 0 < L
    go true h = index_inside order mode L to k o two top w a (h refl)
    go false h = omega arith

at-cond : (t : Bool) (p q : Point) (k L : ℕ) → (t ≡ true → get_or p.at k 0 < L) → (t ≡ false → get_or q.at k 0 < L) → get_or (cond t p q).at k 0 < L
at-cond true p q k L h g = h refl
at-cond false p q k L h g = g refl

pub point_inside : (order : ℕ) (mode : BorderMode) (a : Axis) (i k : ℕ) → Reached order a i → get_or (point_at order mode a i).at k 0 < a.len
unfolding point_at kept_point
point_inside order mode a i k r =
    let to = settled mode a i in
    let o = order_on a.len order in
    let first = first_neighbour o to in
    let reads : Point = record { mark = Reads; weight = build_splines o to; at = neighbours mode o a.len first } in
    at-cond (kept to) (cond (eqb o 0 && outside o a.len first) (empty Beside) reads) (empty Dropped) k a.len
    (λ t. at-cond (eqb o 0 && outside o a.len first) (empty Beside) reads k a.len (λ _. empty_inside Beside k a.len r.least)
    (λ n. let p = reached_kept order mode a i refl r t in neighbours_inside o mode a.len to k p.upto p.least (kept_two p n) p.most p.bound (above_kept to p.above)))
    (λ _. empty_inside Dropped k a.len r.least)

-- ---- one output index more
pub tabled_more :
    (order : ℕ) (mode : BorderMode) (a : Axis) (i : ℕ) (t t' : Table) (p : Point) → p ≡ point_at order mode a i → Reached order a i → i < 4096 →
    Filled (kept_at mode a) false t'.kept (i + 1) → Column 0 i p.at t.at t'.at 6 → Column nan i p.weight t.weight t'.weight 6 → Tabled order mode a t i → Tabled order mode a t' (i + 1)
tabled_more order mode a i t t' p e r I f c w q = record {
  kept = f;
  inside = λ m h. dite (ℕ_discrete (m % 4096) i) (λ q. dite (dec_lt (m / 4096) 6) (λ b. hit m q b) (λ n. miss m (λ k l z. omega arith) h)) (λ n. miss m (λ k l z. n (omega arith)) h);
  places = λ j k h l.
      let le : j ≤ i = omega arith in
      elim (eq-or-lt_of_le le) [
        | inl q ↦ rw q (c.set k l ∙ ap (λ (x : Point). get_or x.at k 0) e)
        | inr b ↦ c.rest (k * 4096 + j) (λ k' l' z. omega arith) ∙ q.places j k b l
      ];
  weights = λ j k h l.
      let le : j ≤ i = omega arith in
      elim (eq-or-lt_of_le le) [
        | inl q ↦ rw q (w.set k l ∙ ap (λ (x : Point). get_or x.weight k nan) e)
        | inr b ↦ w.rest (k * 4096 + j) (λ k' l' z. omega arith) ∙ q.weights j k b l
      ];
}
  where
    hit : (m : ℕ) → m % 4096 ≡ i → m / 4096 < 6 → get_or t'.at m 0 < a.len
    hit m q b =
        let z : m ≡ m / 4096 * 4096 + i = omega arith in
        subst (λ (n : ℕ). n < a.len) (sym (ap (λ (x : ℕ). get_or t'.at x 0) z ∙ c.set (m / 4096) b ∙ ap (λ (x : Point). get_or x.at (m / 4096) 0) e)) (point_inside order mode a i (m / 4096) r)

    miss : (m : ℕ) → ((k : ℕ) → k < 6 → m ≡ k * 4096 + i → ⊥) → m < 24580 → get_or t'.at m 0 < a.len
    miss m n h = subst (λ (x : ℕ). x < a.len) (sym (c.rest m n)) (q.inside m h)

-- ---- before the first
pub table_start : (order : ℕ) (mode : BorderMode) (a : Axis) (t : Table) → t.at ≡ replicate 24580 0 → 1 ≤ a.len → Tabled order mode a t 0
table_start order mode a t e l = record {
  inside = λ m h. subst (λ (n : ℕ). n < a.len) (sym (ap (λ (at : List ℕ). get_or at m 0) e ∙ get_or-replicate 24580 m 0 0 h)) (omega arith);
  kept = λ m h. absurd (not-suc-le-zero h);
  places = λ j k h. absurd (not-suc-le-zero h);
  weights = λ j k h. absurd (not-suc-le-zero h);
}
