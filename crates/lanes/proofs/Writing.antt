-- A lane written number by number.
use Prim.Native.Nat.{ℕ, ◌+◌, ◌*◌, ◌≤◌, ◌<◌}
use mathlib.Core.Path.{◌≡◌, refl, sym, ◌∙◌}
use mathlib.Core.Logic.{dite}
use mathlib.Core.List.{List}
use native.Mathlib.Decide.{dec_lt}
use native.Mathlib.Omega.{arith}
use native.Mathlib.Nat.{not-suc-le-zero, mul-lt-mul_of_pos_right}
use lib.ListN.{length, take, set, length-set}
use lib.Seq.{get_or-set_same, get_or-set_other, get_or-take}
use lib.Ieee.{Float, nan}
use Rattle.lane.specs.Lane.{at}
use Rattle.lanes.specs.Bookkeeping.{Written}

pub nothing : (stride start : ℕ) (c xs : List Float) → Written 0 stride start c xs xs
nothing stride start c xs = record { same = refl; lane = λ i h. absurd (not-suc-le-zero h); rest = λ m o. refl }

-- one number more
pub number : {i stride start : ℕ} {c xs ys : List Float} → 1 ≤ stride → start + i * stride < length xs → Written i stride start c xs ys → Written (i + 1) stride start c xs (set ys (start + i * stride) (at c i))
number {i} {stride} {start} {c} {xs} {ys} some h w = record {
  same = length-set ys _ _ ∙ w.same;
  lane = λ k l.
      dite
      (dec_lt k i)
      (λ b.
      let before : k * stride < i * stride = mul-lt-mul_of_pos_right b some in
      get_or-set_other ys _ _ _ nan (λ e. omega arith) ∙ w.lane k b)
      (λ b.
      let e : k ≡ i = omega arith in
      rw e (get_or-set_same ys _ _ nan (omega (arith, w.same))));
  rest = λ m o. get_or-set_other ys _ _ _ nan (λ e. o i (omega arith) e) ∙ w.rest m (λ k l e. o k (omega arith) e);
}

-- only the first n numbers count
pub of_front : {n stride start : ℕ} {c xs ys : List Float} → Written n stride start c xs ys → Written n stride start (take n c) xs ys
of_front {n} {stride} {start} {c} w = record { same = w.same; lane = λ i h. w.lane i h ∙ sym (get_or-take n c i nan h); rest = w.rest }
