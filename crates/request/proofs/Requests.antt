-- What the refusals let pass, and the sizes that follow from it.
use Prim.Native.Nat.{ℕ, ◌*◌, ◌≤◌, ◌<◌}
use native.Mathlib.Nat.{mul-le-mul}
use native.Mathlib.Omega.{arith}
use mathlib.Core.Path.{◌≡◌, refl, sym, ap, ◌∙◌}
use mathlib.Core.Bool.{Bool, true, false, not, ◌&&◌, ◌||◌, true≢false}
use mathlib.Core.List.{List}
use lib.Dec.{T, ltb, eqb, lit≤}
use lib.ListN.{get_or}
use lib.Ieee.{Float, nan, lt, le, eq}
use borrow.Author.Tests.{ltb-false, eqb-true, not-false}
use Rattle.exact.specs.Rounded.{num}
use Rattle.lists.proofs.Somes.{none-at}
use Rattle.std.proofs.lemmas.Bool.{or_parts}
use Rattle.limits.specs.Limits.{longest, longest_padded, single}
use Rattle.axis.specs.Coordinate.{pads}
use Rattle.axis.specs.Bookkeeping.{Zooms}
use Rattle.axis.proofs.Coordinates.{unpadded_pad, pad_most}
use Rattle.prefilter.specs.Volume.{count_of}
use Rattle.request.specs.declared.Request.{Request}
use Rattle.request.specs.Sizes.{filters, edges, padding, source_length, source_dims, needed}
use Rattle.request.specs.Bookkeeping.{Small, Lengths, Zoomed}
use Rattle.request.specs.Conditions.{bad_length, bad_lengths, bad_zoom, bad_factors, moves_slice, zooms_slice, zooms_slices, bad_output, bad_outputs}

-- ---- pads
pub padding_most : (r : Request) (i : ℕ) {pad : ℕ} → pad ≡ padding r i → pad ≤ 12
padding_most r i e = pad_most r.mode r.prefilter r.order (get_or r.dims i 0) e

-- ---- lengths
pub small : (d : List ℕ) → Lengths d → Small d
small d h = let a = h 0 (lit≤ tt) in let b = h 1 (lit≤ tt) in let c = h 2 (lit≤ tt) in (omega arith, (omega arith, omega arith))

pub source_small : (r : Request) → Lengths r.dims → Small (source_dims r)
source_small r h =
    let one : (i : ℕ) → i < 3 → source_length r i ≤ longest_padded = λ i l. omega (arith, h i l, padding_most r i refl) in
    (one 0 (lit≤ tt), (one 1 (lit≤ tt), one 2 (lit≤ tt)))

pub area_most : (d : List ℕ) → Small d → get_or d 1 0 * get_or d 2 0 ≤ 16974400
area_most d h = mul-le-mul h.1.0 h.1.1

-- ---- what a test that does not apply says
pub not_both : (a b : Bool) → not (a && b) ≡ false → T a × T b
not_both true true e = (tt, tt)
not_both true false e = absurd (true≢false e)
not_both false b e = absurd (true≢false e)

pub good_length : (n : ℕ) → bad_length n ≡ false → (1 ≤ n) × (n ≤ longest)
good_length n e = let h = or_parts (ltb n 1) (ltb longest n) e in (ltb-false n 1 h.0, ltb-false longest n h.1)

pub good_lengths : (d : List ℕ) → bad_lengths d ≡ false → Lengths d
unfolding bad_lengths
good_lengths d e i l = good_length (get_or d i 0) (none-at (λ (i : ℕ). bad_length (get_or d i 0)) 3 e i l)

-- a single slice stays where it is, and stays one; a longer axis has 2 voxels or more in the output too
pub unmoved : (n : ℕ) (shift : Float) → moves_slice n shift ≡ false → single n ≡ true → eq shift (num 0) ≡ true
unmoved n shift e s = not-false (eq shift (num 0)) (ap (λ (b : Bool). b && not (eq shift (num 0))) (sym s) ∙ e)

module _ (n out : ℕ) (slice : zooms_slice n out ≡ false) where
  pub still_one : single n ≡ true → out ≡ 1
  still_one s = eqb-true out 1 (not-false (eqb out 1) (ap (λ (b : Bool). b && not (eqb out 1)) (sym s) ∙ slice))

  module _ (good : bad_output n out ≡ false) where
    more : single n ≡ false → (2 ≤ out) × (out ≤ longest)
    more s = let h = or_parts (ltb out 2) (ltb longest out) (ap (λ (b : Bool). not b && (ltb out 2 || ltb longest out)) (sym s) ∙ good) in (ltb-false out 2 h.0, ltb-false longest out h.1)

    pub good_output : ((1 ≤ out) × (out ≤ longest)) × (single n ≡ false → 2 ≤ out)
    good_output = (go (single n) refl, λ s. (more s).0)
      where
        go : (t : Bool) → single n ≡ t → (1 ≤ out) × (out ≤ longest)
        go true s = let e = still_one s in (omega arith, omega arith)
        go false s = let m = more s in (omega arith, m.1)

pub good_outputs : (d out : List ℕ) → zooms_slices d out ≡ false → bad_outputs d out ≡ false → (i : ℕ) → i < 3 → ((1 ≤ get_or out i 0) × (get_or out i 0 ≤ longest)) × (single (get_or d i 0) ≡ false → 2 ≤ get_or out i 0)
unfolding zooms_slices bad_outputs
good_outputs d out slice good i l = good_output (get_or d i 0) (get_or out i 0) (none-at (λ (i : ℕ). zooms_slice (get_or d i 0) (get_or out i 0)) 3 slice i l) (none-at (λ (i : ℕ). bad_output (get_or d i 0) (get_or out i 0)) 3 good i l)

pub good_zoom : (n : ℕ) (f : Float) → bad_length n ≡ false → bad_zoom f ≡ false → Zooms n f
good_zoom n f ok e = let h = not_both (lt (num 0) f) (le f (num 4096)) e in record { short = (good_length n ok).1; above = h.0; most = h.1 }

pub good_zooms : (r : Request) → bad_lengths r.dims ≡ false → bad_factors bad_zoom r.factors ≡ false → Zoomed r
unfolding bad_lengths bad_factors
good_zooms r ok e i l = good_zoom (get_or r.dims i 0) (get_or r.factors i nan) (none-at (λ (i : ℕ). bad_length (get_or r.dims i 0)) 3 ok i l) (none-at (λ (i : ℕ). bad_zoom (get_or r.factors i nan)) 3 e i l)

-- ---- what the sums read: as much as is needed of work, or the input
module _ (r : Request) where
  pub plain_count : edges r ≡ false → count_of (source_dims r) ≡ count_of r.dims
  plain_count e =
      let q : (i : ℕ) → source_length r i ≡ get_or r.dims i 0 = λ i. omega (arith, unpadded_pad r.mode r.prefilter r.order (get_or r.dims i 0) e) in
      λ t. q 0 t * (q 1 t * q 2 t)

  pub plain_edges : filters r ≡ false → edges r ≡ false
  plain_edges f = ap (λ (b : Bool). b && pads r.mode) f

  pub needed_all : filters r ≡ true → needed r ≡ count_of (source_dims r)
  needed_all f = simp f
