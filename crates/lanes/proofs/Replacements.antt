-- Lanes replaced one after another: the empty step, one step more, and what all of them make.
use Prim.Native.Nat.{ℕ, ◌+◌, ◌*◌, ◌-◌, ◌/◌, ◌≤◌, ◌<◌}
use mathlib.Core.Path.{◌≡◌, refl, sym, ap, ◌∙◌}
use mathlib.Core.Logic.{◌⊎◌, inl, inr, dite}
use mathlib.Core.List.{List}
use native.Mathlib.Decide.{dec_lt}
use native.Mathlib.Omega.{arith}
use native.Mathlib.Nat.{mod-lt}
use lib.ListN.{length}
use lib.Seq.{ext_get_or}
use lib.Ieee.{Float, nan}
use Rattle.lane.specs.Lane.{at}
use Rattle.lanes.specs.Along.{lane_of, along, filter_along}
use Rattle.lanes.specs.declared.Grid.{Grid}
use Rattle.lanes.specs.Bookkeeping.{Fills, Written, Replaced, lanes_by}
use Rattle.lanes.proofs.Grids.{on_lane, apart}
use Rattle.lanes.proofs.Alongs.{lane_same, length-along, at-along}

module _ {grid : Grid} where
  -- nothing was to replace
  pub none : {from to : ℕ} (c : ℕ → List Float) (xs : List Float) → (grid.lanes ≤ from) ⊎ (to ≤ from) → Replaced grid from to c xs xs
  none c xs e = record {
    same = refl;
    new = λ k i h l a b. absurd (elim e [ inl o ↦ omega arith | inr o ↦ omega arith ]);
    rest = λ k i h l o. refl;
  }

  pub join : {from mid to : ℕ} {c : ℕ → List Float} {xs ys zs : List Float} → from ≤ mid → mid ≤ to → Replaced grid from mid c xs ys → Replaced grid mid to c ys zs → Replaced grid from to c xs zs
  join {mid} low high p q = record {
    same = q.same ∙ p.same;
    new = λ k i h l a b. dite (dec_lt k mid) (λ t. q.rest k i h l (inl t) ∙ p.new k i h l a t) (λ t. q.new k i h l (omega arith) b);
    rest = λ k i h l o. q.rest k i h l (elim o [ inl a ↦ inl (omega arith) | inr a ↦ inr a ]) ∙ p.rest k i h l (elim o [ inl a ↦ inl a | inr a ↦ inr (omega arith) ]);
  }

  -- only the lanes that are replaced count
  pub alike : {from to : ℕ} {c d : ℕ → List Float} {xs ys : List Float} → ((k : ℕ) → k < grid.lanes → from ≤ k → k < to → c k ≡ d k) → Replaced grid from to c xs ys → Replaced grid from to d xs ys
  alike e p = record { same = p.same; new = λ k i h l a b. p.new k i h l a b ∙ ap (λ (c : List Float). at c i) (e k h a b); rest = p.rest }

  -- one lane more, where there is one
  pub more : {from j : ℕ} {b : List Float} {c : ℕ → List Float} {xs ys zs : List Float} → from ≤ j → (j < grid.lanes → b ≡ c j) → Replaced grid from j c xs ys → Replaced grid j (j + 1) (λ k. b) ys zs → Replaced grid from (j + 1) c xs zs
  more {from} {j} {b} {c} {xs} {ys} {zs} low same p q =
      join low (omega arith) p (alike (λ k h a l. let o : j ≡ k = omega arith in same (omega arith) ∙ ap c o) q)

  -- the lanes past those that were filtered are still the first list's
  pub further : (f : List Float → List Float) {j to : ℕ} {xs ys zs : List Float} → j ≤ to → Replaced grid 0 j (lanes_by f grid xs) xs ys → Replaced grid j to (lanes_by f grid ys) ys zs → Replaced grid 0 to (lanes_by f grid xs) xs zs
  further f {j} {to} {xs} {ys} le p q = join (omega arith) le p (alike (λ k h a b. ap f (lane_same grid.size grid.stride (k * grid.step) (k * grid.step) ys xs (λ i l. p.rest k i h l (inr a)))) q)

  module _ {count : ℕ} (g : Fills grid count) where
    pub one : {j : ℕ} {c xs ys : List Float} → j < grid.lanes → Written grid.size grid.stride (j * grid.step) c xs ys → Replaced grid j (j + 1) (λ k. c) xs ys
    one {j} {c} {xs} {ys} there w = record {
      same = w.same;
      new = λ k i h l a b. let e : k ≡ j = omega arith in rw e (w.lane i l);
      rest = λ k i h l o. w.rest (k * grid.step + i * grid.stride) (λ b t e. let same : k ≡ j = apart g k j i b h there l t e in elim o [ inl a ↦ omega arith | inr a ↦ omega arith ]);
    }

    pub all : (f : List Float → List Float) {to : ℕ} {xs ys : List Float} → count ≡ length xs → grid.lanes ≤ to → Replaced grid 0 to (lanes_by f grid xs) xs ys → ys ≡ filter_along f grid.size grid.stride xs
    all f {to} {xs} {ys} size enough p =
        ext_get_or nan ys (filter_along f grid.size grid.stride xs) (p.same ∙ sym (length-along f grid.size grid.stride xs))
        (λ m h.
        let within : m < length xs = rw p.same at h in
        let o = on_lane g m (rw size within) in
        let far = along grid.size grid.stride m in
        let start : m - far * grid.stride ≡ o.lane * grid.step = omega (arith, o.is) in
        let short : far < grid.size = mod-lt (m / grid.stride) (omega (arith, g.least)) in
        ap (λ (x : ℕ). at ys x) o.is
        ∙ p.new o.lane far o.there short (omega arith) (omega (arith, o.there))
        ∙ ap (λ (x : ℕ). at (f (lane_of grid.size grid.stride x xs)) far) (sym start)
        ∙ sym (at-along f grid.size grid.stride xs m within))
