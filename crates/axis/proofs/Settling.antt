-- What is settled: at a whole coordinate what `Settles` says, in every mode but Nearest; in Replicate, at any coordinate, from the pad to the last voxel behind it, and from 0 to L - 1 what Nearest has.
use Rattle.std.proofs.Common.{◌≡◌, ℕ, ◌+◌, ◌-◌, ◌*◌, ◌^◌, ◌≤◌, Bool, true, false, cond, ◌&&◌, get_or, ℤ, pos, nat_abs, sym, refl, ap, ◌∙◌, subst, le_trans, add_comm, zero-add, arith, lit≤}
use lib.IntN.{+ℤ_idr}
use lib.Ieee.{Float, nan, lt}
use Rattle.limits.specs.Limits.{single}
use Rattle.limits.proofs.Singles.{two_long}
use Rattle.exact.specs.Rounded.{◌⊕◌, ◌⊖◌, num}
use Rattle.exact.specs.Whole.{Is}
use Rattle.exact.specs.Within.{Within}
use Rattle.exact.proofs.Is.{add_is}
use Rattle.exact.proofs.Naturals.{num_is, plus, times, minus}
use Rattle.exact.proofs.Upto.{Upto}
use Rattle.exact.proofs.Between.{between_upto}
use Rattle.lists.specs.Some.{some_below}
use Rattle.border.specs.declared.BorderMode.{BorderMode}
use Rattle.border.specs.declared.BorderMode.TheVariants.{Constant, Mirror, Nearest, Reflect, Wrap, Replicate}
use Rattle.border.specs.Fold.{fold}
use Rattle.border.specs.Landing.{Lands}
use Rattle.border.proofs.Arms.{inside}
use Rattle.border.proofs.Clamped.{replicate_between}
use Rattle.border.proofs.Landing.{fold_lands}
use Rattle.axis.specs.declared.coordinate.Axis.{Axis}
use Rattle.axis.specs.Coordinate.{pads, pad_of, unpadded, unpadded_length, coordinate, settled, kept}
use Rattle.axis.specs.Weights.{order_on, build_splines}
use Rattle.axis.specs.Neighbours.{first_neighbour, neighbour, neighbour_index}
use Rattle.axis.specs.declared.point.Mark.TheVariants.{Dropped}
use Rattle.axis.specs.Point.{empty, neighbours, kept_point, point_at}
use Rattle.axis.specs.Folded.{weighs, beyond, weight_at, unfolded_at, folded_at}
use Rattle.axis.specs.Settled.{Folds, Settles}
use Rattle.axis.proofs.Coordinates.{no_pad, single-settled, long_settled}
use Rattle.axis.proofs.Folding.{Padded, pad_is}

-- ---- Replicate
module _ {a : Axis} {length pad : ℕ} (b : Padded a length pad) (two : 2 ≤ length) (i : ℕ) where
  clamps : settled Replicate a i ≡ fold Replicate (unpadded a i) (unpadded_length a) ⊕ a.pad
  clamps = long_settled Replicate a i (two_long a.len (omega (arith, b.long)))

  length_is : Is (unpadded_length a) (pos length)
  length_is =
      let long = b.long in
      let short = b.short in
      let e : a.len - 2 * pad ≡ length = omega arith in
      subst (λ (n : ℕ). Is (unpadded_length a) (pos n)) e (minus (num_is a.len (omega arith)) (times (num_is 2 (lit≤ tt)) (pad_is b) (omega arith)) (omega arith) (omega arith))

  pub replicate_upto : {k : ℕ} → Within k (unpadded a i) → Upto ((length - 1) * 2 ^ 14 + pad * 2 ^ 14) (settled Replicate a i)
  replicate_upto w =
      let long = b.long in
      let short = b.short in
      rw clamps (subst (λ (p : Float). Upto ((length - 1) * 2 ^ 14 + pad * 2 ^ 14) (fold Replicate (unpadded a i) (unpadded_length a) ⊕ p)) (sym b.stands) (between_upto pad (replicate_between w length_is (omega arith) (omega arith)) (omega arith) (omega arith)))

  replicate_settles : (n : ℤ) → Is (unpadded a i) n → nat_abs n ≤ 2 ^ 32 → Settles Replicate length pad n (settled Replicate a i)
  replicate_settles n h d =
      let long = b.long in
      let short = b.short in
      let v = (fold_lands Replicate n length h length_is two (omega arith) d).follows (λ z. z) in
      rw clamps (record { marked = λ z. absurd z; follows = λ _. (v.i, v.stands, subst (λ (k : ℕ). Is (fold Replicate (unpadded a i) (unpadded_length a) ⊕ a.pad) (pos k)) (add_comm v.i pad) (plus v.is (pad_is b) (omega (arith, v.stands.voxel)))) })

-- ---- from 0 to L - 1 it settles as Nearest does
pub replicate_inside : (a : Axis) (i : ℕ) → lt (unpadded a i) (num 0) ≡ false → lt (unpadded_length a ⊖ num 1) (unpadded a i) ≡ false → settled Replicate a i ≡ settled Nearest a i
unfolding coordinate
replicate_inside a i p q = by (single a.len) refl
  where
    by : (t : Bool) → single a.len ≡ t → settled Replicate a i ≡ settled Nearest a i
    by true e = single-settled Replicate a i e ∙ sym (single-settled Nearest a i e)
    by false e = long_settled Replicate a i e ∙ ap (λ (x : Float). x ⊕ a.pad) (sym (inside Replicate (unpadded a i) (unpadded_length a) p q)) ∙ sym (long_settled Nearest a i e)

-- where the two settle alike they read alike
module _ (order : ℕ) (a : Axis) (i : ℕ) (e : settled Replicate a i ≡ settled Nearest a i) where
  pub nearest_point : point_at order Replicate a i ≡ point_at order Nearest a i
  unfolding point_at kept_point neighbours neighbour_index neighbour
  nearest_point = ap (λ (to : Float). cond (kept to) (kept_point (order_on a.len order) Nearest a.len to) (empty Dropped)) e

  pub nearest_folded : folded_at order Replicate a i ≡ folded_at order Nearest a i
  unfolding folded_at weight_at unfolded_at
  nearest_folded =
      let o = order_on a.len order in
      ap (λ (to : Float). some_below (λ k. weighs (get_or (build_splines o to) k nan) && beyond a (first_neighbour o to ⊕ num k)) (o + 1)) e

-- ---- the modes that fold with the pad, which have none
module _ {a : Axis} {length : ℕ} (b : Padded a length 0) (two : 2 ≤ length) (i : ℕ) (n : ℤ) (is : Is (unpadded a i) n) (near : nat_abs n ≤ 2 ^ 32) where
  folded : (mode : BorderMode) → Lands mode length n (fold mode (coordinate a i) (num a.len))
  unfolding coordinate
  folded mode =
      let long = b.long in
      let short = b.short in
      let e : a.len ≡ length = omega arith in
      let z = +ℤ_idr n in
      fold_lands mode n length (subst (λ (m : ℤ). Is (unpadded a i ⊕ a.pad) m) z (add_is is (pad_is b) (subst (λ (m : ℤ). nat_abs m ≤ 2 ^ 53) (sym z) (le_trans near (lit≤ tt)))))
      (subst (λ (k : ℕ). Is (num a.len) (pos k)) e (num_is a.len (omega arith))) two (omega arith) near

  lands_settles : (mode : BorderMode) {to : Float} → Lands mode length n to → Settles mode length 0 n to
  lands_settles mode {to} l = record { marked = l.marked; follows = λ no. let v = l.follows no in (v.i, v.stands, subst (λ (k : ℕ). Is to (pos k)) (sym (zero-add v.i)) v.is) }

-- ---- the theorem, with the pad that a request has
pub settled_lands :
    (mode : BorderMode) (prefilter : Bool) (order : ℕ) → Folds mode → {a : Axis} {length : ℕ} → Padded a length (pad_of mode prefilter order length) → 2 ≤ length →
    (i : ℕ) (n : ℤ) → Is (unpadded a i) n → nat_abs n ≤ 2 ^ 32 → Settles mode length (pad_of mode prefilter order length) n (settled mode a i)
settled_lands mode prefilter order folds {a} {length} b two i n is near = go mode folds b
  where
    long : single a.len ≡ false
    long = two_long a.len (omega (arith, b.long))

    with_pad : (mode : BorderMode) → pads mode ≡ false → settled mode a i ≡ fold mode (coordinate a i) (num a.len) → Padded a length (pad_of mode prefilter order length) → Settles mode length (pad_of mode prefilter order length) n (settled mode a i)
    with_pad mode p e b =
        let none = no_pad mode prefilter order length p in
        let plain = subst (λ (p : ℕ). Padded a length p) none b in
        rw e (subst (λ (p : ℕ). Settles mode length p n (fold mode (coordinate a i) (num a.len))) (sym none) (lands_settles plain two i n is near mode (folded plain two i n is near mode)))

    go : (mode : BorderMode) → Folds mode → Padded a length (pad_of mode prefilter order length) → Settles mode length (pad_of mode prefilter order length) n (settled mode a i)
    go (Constant fill) o b = with_pad (Constant fill) refl (long_settled (Constant fill) a i long) b
    go Mirror o b = with_pad Mirror refl (long_settled Mirror a i long) b
    go Nearest o b = absurd o
    go Reflect o b = with_pad Reflect refl (long_settled Reflect a i long) b
    go Wrap o b = with_pad Wrap refl (long_settled Wrap a i long) b
    go Replicate o b = replicate_settles b two i n is near
