-- Bounds: every coordinate that an admitted request can reach, before and after the fold. They are crude, and far inside what the border theorem covers.
use Rattle.std.proofs.Common.{◌≡◌, ℕ, zero, suc, ◌+◌, ◌-◌, ◌*◌, ◌/◌, ◌^◌, ◌<◌, ◌≤◌, Bool, true, false, cond, ◌||◌, ℤ, pos, negsuc, ◌+ℤ◌, ◌*ℤ◌, nat_abs, sym, refl, subst, suc-le-suc, zero-le, le_trans, mul_comm, mul-le-mul_left, mul-suc, div-mul-le_self, arith, lit≤}
use lib.IntN.{suc_ℤ, +ℤ_one}
use lib.Ieee.{Float, neg, lt, le}
use Rattle.limits.specs.Limits.{single}
use Rattle.limits.proofs.Singles.{long_two}
use Rattle.exact.specs.Rounded.{◌⊕◌, ◌⊖◌, ◌⊗◌, ◌⊘◌, num}
use Rattle.exact.specs.Whole.{Is}
use Rattle.exact.specs.Within.{Within}
use Rattle.exact.specs.Floor.{floor_f}
use Rattle.exact.proofs.Is.{add_is, mul_is}
use Rattle.exact.proofs.Naturals.{num_is, minus, times}
use Rattle.exact.proofs.Withins.{within_mono, add_within, sub_within, neg_within, mul_within, div_within, is_within, W_within, least_of_is}
use Rattle.exact.proofs.Above.{floor_quotient}
use Rattle.border.specs.declared.BorderMode.{BorderMode}
use Rattle.border.specs.declared.BorderMode.TheVariants.{Constant, Mirror, Nearest, Reflect, Wrap, Replicate}
use Rattle.border.specs.Fold.{under, over, mirror_period, reflect_period, reflect_under, fold, fold_constant, fold_mirror, fold_nearest, fold_reflect, fold_wrap, fold_replicate}
use Rattle.border.proofs.Periods.{size_multiple}
use Rattle.axis.specs.declared.coordinate.Axis.{Axis}
use Rattle.axis.specs.Coordinate.{unpadded, coordinate, unpadded_length, folds, settled_by, settled, shift_axis, zoom_axis}
use Rattle.axis.specs.Bookkeeping.{Reached}
use Rattle.axis.proofs.Coordinates.{single-settled, long_settled}

-- ---- the coordinate itself
num_within : (n k : ℕ) → k ≤ 53 → n ≤ 2 ^ k → Within k (num n)
num_within n k K h = W_within (pos n) k K h

pub pad_within : {pad : ℕ} → pad ≤ 12 → Within 25 (num pad)
pad_within {pad} p = num_within pad 25 (lit≤ tt) (le_trans p (lit≤ tt))

pub shift_reaches : (length : ℕ) (shift : Float) (pad i : ℕ) → Within 20 shift → i ≤ 4096 → Within 25 (unpadded (shift_axis length shift pad) i)
unfolding unpadded
shift_reaches length shift pad i s l =
    within_mono {j = 21} (lit≤ tt)
    (mul_within {j = 21} {k = 0} (lit≤ tt) (add_within {k = 20} (lit≤ tt) (num_within i 20 (lit≤ tt) (le_trans l (lit≤ tt))) (neg_within s)) (num_within 1 0 (lit≤ tt) (lit≤ tt)))

pub zoom_reaches : (length out pad i : ℕ) → length ≤ 4096 → (single length ≡ false → 2 ≤ out) → out ≤ 4096 → i ≤ 4096 → Within 25 (unpadded (zoom_axis length out pad) i)
unfolding unpadded
zoom_reaches length out pad i n two o l =
    mul_within {j = 13} {k = 12} (lit≤ tt) (add_within {k = 12} (lit≤ tt) (num_within i 12 (lit≤ tt) l) (num_within 0 12 (lit≤ tt) (lit≤ tt))) (ratio (single length) two)
  where
    ratio : (t : Bool) → (t ≡ false → 2 ≤ out) → Within 12 (cond t (num 1) (num (length - 1) ⊘ num (out - 1)))
    ratio true h = num_within 1 12 (lit≤ tt) (lit≤ tt)
    ratio false h =
        let more = h refl in
        div_within (num (out - 1)) (lit≤ tt) (num_within (length - 1) 12 (lit≤ tt) (omega arith)) (least_of_is (num (out - 1)) (num_is (out - 1) (omega arith)) (omega arith))

-- ---- the whole periods in a coordinate
product_most : (b n q P : ℕ) → n ≤ suc (suc q) → q * b ≤ P → b * n ≤ P + (b + b)
product_most b n q P h l =
    let a : b * n ≤ b * suc (suc q) = mul-le-mul_left b h in
    let c : b * suc (suc q) ≡ b * suc q + b = mul-suc b (suc q) in
    let d : b * suc q ≡ b * q + b = mul-suc b q in
    let e : b * q ≡ q * b = mul_comm b q in
    omega arith

module _ {x period : Float} (b : ℕ) (w : Within 26 x) (h : Is period (pos b)) (B : 0 < b) (C : b ≤ 2 ^ 14) where
  periods_within : (y : Float) (z : ℤ) → Is y z → nat_abs z ≤ suc (suc (2 ^ 26 / b)) → Within 27 (period ⊗ y)
  periods_within y z i m =
      let e : nat_abs (pos b *ℤ z) ≡ b * nat_abs z = size_multiple b z in
      let l : b * nat_abs z ≤ 2 ^ 26 + (b + b) = product_most b (nat_abs z) (2 ^ 26 / b) (2 ^ 26) m (div-mul-le_self (2 ^ 26) b) in
      is_within 27 (mul_is h i (omega arith)) (omega arith)

  pub whole_periods : Within 27 (period ⊗ floor_f (x ⊘ period))
  whole_periods =
      let q = floor_quotient x (lit≤ tt) w h B in
      periods_within (floor_f (x ⊘ period)) q.0 q.2 (le_trans q.1 (suc-le-suc (omega arith)))

  -- and one more
  pub next_period : Within 27 (period ⊗ (floor_f (x ⊘ period) ⊕ num 1))
  next_period =
      let q = floor_quotient x (lit≤ tt) w h B in
      let m : nat_abs (q.0 +ℤ pos 1) ≤ suc (suc (2 ^ 26 / b)) = one_more q.0 q.1 in
      periods_within (floor_f (x ⊘ period) ⊕ num 1) (q.0 +ℤ pos 1) (add_is q.2 (num_is 1 (lit≤ tt)) (le_trans m (omega (arith, native.Mathlib.Nat.div-le_self (2 ^ 26) b)))) m
    where
      size_suc : (z : ℤ) → nat_abs (suc_ℤ z) ≤ suc (nat_abs z)
      size_suc (pos n) = native.Mathlib.Nat.le_refl (suc n)
      size_suc (negsuc zero) = zero-le
      size_suc (negsuc (suc n)) = omega arith

      one_more : (z : ℤ) {c : ℕ} → nat_abs z ≤ c → nat_abs (z +ℤ pos 1) ≤ suc c
      one_more z {c} l = subst (λ (y : ℤ). nat_abs y ≤ suc c) (sym (+ℤ_one z)) (le_trans (size_suc z) (suc-le-suc l))

-- ---- the fold
choice : (k : ℕ) (b : Bool) {x y : Float} → Within k x → Within k y → Within k (cond b x y)
choice k true h g = h
choice k false h g = g

replicate_within : {idx len : Float} → Within 29 idx → Within 28 len → Within 29 (fold_replicate idx len)
unfolding fold_replicate
replicate_within {idx} {len} w l = choice 29 (lt idx (num 0)) (num_within 0 29 (lit≤ tt) zero-le) (choice 29 (lt (len ⊖ num 1) idx) (sub_within {k = 28} (lit≤ tt) l (num_within 1 28 (lit≤ tt) (lit≤ tt))) w)

module _ {idx len : Float} (L : ℕ) (w : Within 26 idx) (is : Is len (pos L)) (least : 2 ≤ L) (most : L ≤ 4120) where
  one : Within 29 (num 1)
  one = num_within 1 29 (lit≤ tt) (lit≤ tt)

  idx_within : Within 30 idx
  idx_within = within_mono (lit≤ tt) w

  len_within : Within 13 len
  len_within = is_within 13 is (omega arith)

  -- a period b: what is left below 0, and beyond the far end
  module _ {period : Float} (b : ℕ) (h : Is period (pos b)) (B : 0 < b) (C : b ≤ 2 ^ 14) where
    period_within : Within 28 period
    period_within = is_within 28 h (omega arith)

    under_within : Within 28 (under period idx)
    under_within = add_within {k = 27} (lit≤ tt) (whole_periods b (neg_within w) h B C) (within_mono (lit≤ tt) w)

    over_within : Within 28 (over period idx)
    over_within = sub_within {k = 27} (lit≤ tt) (within_mono (lit≤ tt) w) (whole_periods b w h B C)

    -- the last steps of the folds
    turned_over : Within 29 (period ⊖ over period idx)
    turned_over = sub_within {k = 28} (lit≤ tt) period_within over_within

  mirror_within : Within 30 (fold_mirror idx len)
  unfolding fold_mirror
  mirror_within =
      let b = 2 * L - 2 in
      let h : Is (mirror_period len) (pos b) = minus (times (num_is 2 (lit≤ tt)) is (omega arith)) (num_is 2 (lit≤ tt)) (omega arith) (omega arith) in
      let u = under_within b h (omega arith) (omega arith) in
      let o = over_within b h (omega arith) (omega arith) in
      choice 30 (lt idx (num 0)) (choice 30 (le (under (mirror_period len) idx) (num 1 ⊖ len)) (within_mono {j = 29} (lit≤ tt) (add_within {k = 28} (lit≤ tt) u (period_within b h (omega arith) (omega arith)))) (within_mono {j = 28} (lit≤ tt) (neg_within u)))
      (choice 30 (le len idx) (choice 30 (le len (over (mirror_period len) idx)) (within_mono {j = 29} (lit≤ tt) (turned_over b h (omega arith) (omega arith))) (within_mono {j = 28} (lit≤ tt) o)) idx_within)

  reflect_within : Within 30 (fold_reflect idx len)
  unfolding fold_reflect
  reflect_within =
      let b = 2 * L in
      let h : Is (reflect_period len) (pos b) = times (num_is 2 (lit≤ tt)) is (omega arith) in
      let t : Within 28 (reflect_under idx len) = choice 28 (lt idx (neg (reflect_period len))) (under_within b h (omega arith) (omega arith)) (within_mono {j = 26} (lit≤ tt) w) in
      let o = over_within b h (omega arith) (omega arith) in
      choice 30 (lt idx (num 0)) (choice 30 (lt (reflect_under idx len) (neg len)) (within_mono {j = 29} (lit≤ tt) (add_within {k = 28} (lit≤ tt) t (period_within b h (omega arith) (omega arith)))) (sub_within {k = 29} (lit≤ tt) (within_mono {j = 28} (lit≤ tt) (neg_within t)) one))
      (choice 30 (le len idx) (choice 30 (le len (over (reflect_period len) idx)) (sub_within {k = 29} (lit≤ tt) (turned_over b h (omega arith) (omega arith)) one) (within_mono {j = 28} (lit≤ tt) o)) idx_within)

  wrap_within : Within 30 (fold_wrap idx len)
  unfolding fold_wrap
  wrap_within =
      let b = L - 1 in
      let h : Is (len ⊖ num 1) (pos b) = minus is (num_is 1 (lit≤ tt)) (omega arith) (omega arith) in
      choice 30 (lt idx (num 0)) (within_mono {j = 28} (lit≤ tt) (add_within {k = 27} (lit≤ tt) (within_mono {j = 26} (lit≤ tt) w) (next_period b (neg_within w) h (omega arith) (omega arith))))
      (choice 30 (le len idx) (within_mono {j = 28} (lit≤ tt) (over_within b h (omega arith) (omega arith))) idx_within)

  constant_within : Within 30 (fold_constant idx len)
  unfolding fold_constant
  constant_within = choice 30 (lt idx (num 0) || le len idx) (neg_within (within_mono {j = 29} (lit≤ tt) one)) idx_within

  nearest_within : Within 30 (fold_nearest idx len)
  unfolding fold_nearest
  nearest_within = choice 30 (lt idx (num 0)) (num_within 0 30 (lit≤ tt) zero-le) (choice 30 (le len idx) (sub_within {k = 29} (lit≤ tt) (within_mono {j = 13} (lit≤ tt) len_within) one) idx_within)

  fold_within : (mode : BorderMode) → Within 30 (fold mode idx len)
  unfolding fold
  fold_within (Constant fill) = constant_within
  fold_within Mirror = mirror_within
  fold_within Nearest = nearest_within
  fold_within Reflect = reflect_within
  fold_within Wrap = wrap_within
  fold_within Replicate = within_mono {j = 29} (lit≤ tt) (replicate_within (within_mono (lit≤ tt) w) (within_mono (lit≤ tt) len_within))

pub settled_within : (mode : BorderMode) {order : ℕ} {a : Axis} {i : ℕ} → Reached order a i → Within 30 (settled mode a i)
unfolding coordinate fold
settled_within mode {order} {a} {i} r = by (single a.len) refl
  where
    to : Within 26 (unpadded a i ⊕ a.pad)
    to = add_within {k = 25} (lit≤ tt) r.bound r.pad

    folded : 2 ≤ a.len → (mode : BorderMode) → Within 30 (fold mode (unpadded a i ⊕ a.pad) (num a.len))
    folded two mode = fold_within a.len to (num_is a.len (omega (arith, r.most))) two r.most mode

    before : Within 28 (unpadded_length a)
    before = sub_within {k = 27} (lit≤ tt) (num_within a.len 27 (lit≤ tt) (omega (arith, r.most))) (within_mono {j = 26} (lit≤ tt) (mul_within {j = 1} {k = 25} (lit≤ tt) (num_within 2 1 (lit≤ tt) (lit≤ tt)) r.pad))

    go : 2 ≤ a.len → (mode : BorderMode) → Within 30 (settled_by (folds mode) mode a i)
    go two (Constant fill) = folded two (Constant fill)
    go two Mirror = folded two Mirror
    go two Nearest = within_mono {j = 26} (lit≤ tt) to
    go two Reflect = folded two Reflect
    go two Wrap = folded two Wrap
    go two Replicate = add_within {k = 29} (lit≤ tt) (replicate_within (within_mono {j = 25} (lit≤ tt) r.bound) before) (within_mono {j = 25} (lit≤ tt) r.pad)

    by : (t : Bool) → single a.len ≡ t → Within 30 (settled mode a i)
    by true e = subst (λ (x : Float). Within 30 x) (sym (single-settled mode a i e)) (within_mono {j = 26} (lit≤ tt) to)
    by false e = subst (λ (x : Float). Within 30 x) (sym (long_settled mode a i e)) (go (long_two a.len e r.least) mode)
