-- What keeps every refusal but 9 from meeting a shift by whole numbers at order 0 or 1: lengths, a count and values that they let pass, single slices that are not shifted, and buffers of that count. Nothing is asked of the work buffer.
use Prim.Native.Nat.{ℕ, ◌^◌, ◌≤◌, ◌<◌, zero-le}
use native.Mathlib.Omega.{arith}
use mathlib.Core.Path.{◌≡◌, refl, ap, ◌∙◌}
use mathlib.Core.Bool.{Bool, true, false, not, ◌&&◌, ◌||◌, cond}
use mathlib.Core.List.{List}
use lib.IntN.{ℤ, pos, negsuc, neg_ℤ, nat_abs}
use lib.Signed.{lt_z}
use lib.Dec.{lit≤}
use lib.ListN.{length, get_or}
use lib.Ieee.{Float, nan, eq}
use borrow.Author.Tests.{le-ltb, lt-ltb, eq-eqb}
use Rattle.limits.specs.Limits.{single}
use Rattle.limits.proofs.Singles.{single_one}
use Rattle.exact.specs.Rounded.{num}
use Rattle.exact.specs.Whole.{Is}
use Rattle.exact.proofs.Value.{is_true}
use Rattle.exact.proofs.Is.{neg_is, lt_is, is_eq}
use Rattle.exact.proofs.Naturals.{num_is}
use Rattle.lists.proofs.Somes.{some_none}
use Rattle.prefilter.specs.Volume.{count_of}
use Rattle.request.specs.declared.Request.{Request}
use Rattle.request.specs.Sizes.{source_dims, needed, shift_axes}
use Rattle.request.specs.Conditions.{bad_lengths, bad_shift, bad_factors, moves_slice, moves_slices, too_large, wrong, too_short, wild_fill, some_wild, beside_any}
use Rattle.refusal.specs.declared.Asked.TheVariants.{Volume}
use Rattle.refusal.specs.declared.Refusal.TheVariants.{Beside}
use Rattle.refusal.specs.Refusals.{when, shift_checks}
use Rattle.promises.specs.Given.{earlier, NoneBut}
use Rattle.promises.specs.Moves.{Whole}
use Rattle.promises.proofs.Given.{clear_holds, but_last}
use Rattle.promises.proofs.WholeRequest.{no_filter}

-- ---- refusal 4
small_shift : (f : Float) (z : ℤ) → Is f z → nat_abs z < 2 ^ 20 → bad_shift f ≡ false
small_shift f z h l =
    let top = num_is (2 ^ 20) (lit≤ tt) in
    (λ i. not (lt_is (neg_is top) h i && lt_is h top i)) ∙ go z l
  where
    go : (z : ℤ) → nat_abs z < 2 ^ 20 → not (lt_z (neg_ℤ (pos (2 ^ 20))) z && lt_z z (pos (2 ^ 20))) ≡ false
    go (pos k) l = ap not (lt-ltb k (2 ^ 20) l)
    go (negsuc k) l = ap (λ (b : Bool). not (b && true)) (lt-ltb k 1048575 (omega arith))

-- what the other refusals ask; `output` and `coverage` are lengths
pub record Ready (r : Request) (s : ℕ → ℤ) (input : List Float) (output coverage : ℕ) : Type 0 where
  pub lengths : bad_lengths r.dims ≡ false
  pub still : (i : ℕ) → i < 3 → get_or r.dims i 0 ≡ 1 → s i ≡ pos 0
  pub count : too_large (count_of r.dims) ≡ false
  pub all : length input ≡ count_of r.dims
  pub values : output ≡ count_of r.dims
  pub codes : coverage ≡ count_of r.dims
  pub fill : wild_fill r.mode ≡ false
  pub tame : some_wild input ≡ false

module _ (r : Request) (s : ℕ → ℤ) (input : List Float) (output coverage work : ℕ) (low : r.order ≤ 1) (whole : Whole r s) (h : Ready r s input output coverage) where
  nothing_needed : needed r ≡ 0
  nothing_needed = ap (λ (b : Bool). cond b (count_of (source_dims r)) 0) (no_filter r.prefilter r.order low)

  right : {length : ℕ} → length ≡ count_of r.dims → wrong length (count_of r.dims) ≡ false
  right e = ap not (eq-eqb _ _ e)

  -- a single slice stays where it is
  unmoved : moves_slices r.dims r.factors ≡ false
  unfolding moves_slices
  unmoved = some_none (λ i. moves_slice (get_or r.dims i 0) (get_or r.factors i nan)) 3 (λ i l. go i l (single (get_or r.dims i 0)) refl)
    where
      go : (i : ℕ) → i < 3 → (t : Bool) → single (get_or r.dims i 0) ≡ t → (t && not (eq (get_or r.factors i nan) (num 0))) ≡ false
      go i l true t = ap not {x = eq (get_or r.factors i nan) (num 0)} {y = true} (is_true (eq (get_or r.factors i nan) (num 0)) (is_eq (whole i l).0 (num_is 0 (lit≤ tt)) (h.still i l (single_one (get_or r.dims i 0) t))))
      go i l false t = refl

  pub eight_clear : NoneBut (shift_checks Volume r input output coverage work) 9
  unfolding bad_factors
  eight_clear =
      but_last (earlier (shift_checks Volume r input output coverage work) 9) (when Beside (beside_any r (shift_axes r))) (clear_holds (earlier (shift_checks Volume r input output coverage work) 9) (
        le-ltb 5 r.order (omega arith),
        (
          h.lengths,
          (
            some_none (λ i. bad_shift (get_or r.factors i nan)) 3 (λ i l. small_shift (get_or r.factors i nan) (s i) (whole i l).0 (whole i l).1),
            (
              unmoved,
              (
                (λ i. h.count i || h.count i || too_large (nothing_needed i)),
                ((λ i. right h.all i || right h.values i || right h.codes i || too_short work (nothing_needed i)) ∙ le-ltb work 0 zero-le, ((λ i. h.fill i || h.tame i), tt)),
              ),
            ),
          ),
        ),
      ))
