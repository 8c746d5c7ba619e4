-- What follows where nothing is refused: the axes of the request can be reached, the buffers have their lengths, and an index lies in the output.
use Prim.Native.Nat.{ℕ, ◌*◌, ◌^◌, ◌≤◌, ◌<◌}
use native.Mathlib.Omega.{arith}
use mathlib.Core.Path.{◌≡◌, refl}
use mathlib.Core.Bool.{true, false, ◌||◌}
use mathlib.Core.List.{List}
use lib.Dec.{T, ltb, lit≤, ltb→lt, eqb}
use lib.ListN.{length, get_or}
use lib.Ieee.{Float, nan, inf, fin, up, down, lt, neg, of_int}
use borrow.Author.Tests.{eqb-true, ltb-false, leb-false, not-false}
use Rattle.limits.specs.Limits.{single}
use Rattle.exact.specs.Rounded.{num}
use Rattle.exact.specs.Within.{Within}
use Rattle.axis.specs.Coordinate.{shift_axis, zoom_axis}
use Rattle.axis.specs.Bookkeeping.{Reaches}
use Rattle.axis.proofs.Reaches.{pad_within, shift_reaches, zoom_reaches}
use Rattle.prefilter.specs.Volume.{count_of}
use Rattle.request.specs.declared.Request.{Request}
use Rattle.refusal.specs.declared.Asked.{Asked}
use Rattle.request.specs.Sizes.{needed, padding, zoom_dims, shift_axes, zoom_axes}
use Rattle.request.specs.Bookkeeping.{Lengths, Zoomed}
use Rattle.request.specs.Conditions.{wrong, bad_shift, bad_factors, bad_index, bad_indices}
use Rattle.refusal.specs.Refusals.{first, places_of, shift_checks, zoom_checks, index_checks}
use Rattle.refusal.specs.Bookkeeping.{Passes}
use Rattle.refusal.proofs.Firsts.{all_clear}
use Rattle.lists.proofs.Somes.{none-at}
use Rattle.std.proofs.lemmas.Bool.{or_parts}
use Rattle.request.proofs.Requests.{not_both, padding_most, good_lengths, good_outputs, good_zooms}
use Rattle.std.specs.Prelude.{Ok}

-- ---- a shift that refusal 4 lets pass
at_most : (n d : ℕ) → n * 1 < 1 * 2 ^ 20 * d → n ≤ 2 ^ 20 * d
at_most n d h = omega arith

shift_within : (s : Float) → T (lt (neg (num (2 ^ 20))) s) → T (lt s (num (2 ^ 20))) → Within 20 s
unfolding lt of_int neg
shift_within nan a b = absurd a
shift_within (inf true) a b = absurd a
shift_within (inf false) a b = absurd b
shift_within (fin true m e) a b = record { bound = at_most (m * up e) (down e) (ltb→lt (m * up e * 1) (1 * 2 ^ 20 * down e) a) }
shift_within (fin false m e) a b = record { bound = at_most (m * up e) (down e) (ltb→lt (m * up e * 1) (1 * 2 ^ 20 * down e) b) }

pub good_shift : (s : Float) → bad_shift s ≡ false → Within 20 s
good_shift s e = let h = not_both (lt (neg (num (2 ^ 20))) s) (lt s (num (2 ^ 20))) e in shift_within s h.0 h.1

pub good_shifts : (f : List Float) → bad_factors bad_shift f ≡ false → (i : ℕ) → i < 3 → Within 20 (get_or f i nan)
unfolding bad_factors
good_shifts f e i l = good_shift (get_or f i nan) (none-at (λ (i : ℕ). bad_shift (get_or f i nan)) 3 e i l)

-- ---- axes that can be reached
module _ (order n pad : ℕ) (upto : order ≤ 5) (least : 1 ≤ n) (most : n ≤ 4096) (p : pad ≤ 12) where
  pub shift_axis_reaches : (s : Float) → Within 20 s → Reaches order (shift_axis n s pad)
  shift_axis_reaches s w = record {
    short = most;
    each = λ i h. record { upto = upto; least = omega arith; most = omega arith; bound = shift_reaches n s pad i w (omega arith); pad = pad_within p };
  }

  pub zoom_axis_reaches : (out : ℕ) → (single n ≡ false → 2 ≤ out) → out ≤ 4096 → Reaches order (zoom_axis n out pad)
  zoom_axis_reaches out two o = record {
    short = o;
    each = λ i h. record { upto = upto; least = omega arith; most = omega arith; bound = zoom_reaches n out pad i most two o (omega arith); pad = pad_within p };
  }

-- ---- lengths
pub right : (a b : ℕ) → wrong a b ≡ false → a ≡ b
right a b e = eqb-true a b (not-false (eqb a b) e)

record Lent (r : Request) (places input output coverage work : ℕ) : Type 0 where
  all : input ≡ count_of r.dims
  values : output ≡ places
  codes : coverage ≡ places
  room : needed r ≤ work

module _ (asked : Asked) (r : Request) (input : List Float) (output coverage work : ℕ) where
  lent : (places : ℕ) → (wrong (length input) (count_of r.dims) || wrong output places || wrong coverage places || ltb work (needed r)) ≡ false → Lent r places (length input) output coverage work
  lent places e =
      let w = or_parts (wrong (length input) (count_of r.dims) || wrong output places || wrong coverage places) (ltb work (needed r)) e in
      let c = or_parts (wrong (length input) (count_of r.dims) || wrong output places) (wrong coverage places) w.0 in
      let o = or_parts (wrong (length input) (count_of r.dims)) (wrong output places) c.0 in
      record { all = right _ _ o.0; values = right _ _ o.1; codes = right _ _ c.1; room = ltb-false work (needed r) w.1 }

  pub shift_passes : first (shift_checks asked r input output coverage work) ≡ Ok tt → Passes r (shift_axes r) (places_of asked (count_of r.dims)) (length input) output coverage work
  shift_passes e =
      let h = all_clear (shift_checks asked r input output coverage work) e in
      let b = lent (places_of asked (count_of r.dims)) h.1.1.1.1.1.0 in
      let d = good_lengths r.dims h.1.0 in
      let s = good_shifts r.factors h.1.1.0 in
      let o = ltb-false 5 r.order h.0 in
      let p : (i : ℕ) → padding r i ≤ 12 = λ i. padding_most r i refl in
      let axis : (i : ℕ) → i < 3 → Reaches r.order (shift_axis (get_or r.dims i 0) (get_or r.factors i nan) (padding r i)) = λ i l. shift_axis_reaches r.order (get_or r.dims i 0) (padding r i) o (d i l).0 (d i l).1 (p i) (get_or r.factors i nan) (s i l) in
      record {
        admitted = record { order = o; lengths = d; all = b.all; some = (d 2 (lit≤ tt)).0; x = axis 0 (lit≤ tt); y = axis 1 (lit≤ tt); z = axis 2 (lit≤ tt); long = refl; rows = omega (arith, d 1 (lit≤ tt), p 1); row = omega (arith, d 2 (lit≤ tt), p 2) };
        values = b.values;
        codes = b.codes;
        room = b.room;
      }

  pub zoom_passes : first (zoom_checks asked r input output coverage work) ≡ Ok tt → Passes r (zoom_axes r) (places_of asked (count_of (zoom_dims r))) (length input) output coverage work
  zoom_passes e =
      let h = all_clear (zoom_checks asked r input output coverage work) e in
      let b = lent (places_of asked (count_of (zoom_dims r))) h.1.1.1.1.1.1.0 in
      let d = good_lengths r.dims h.1.0 in
      let out = good_outputs r.dims (zoom_dims r) h.1.1.1.0 h.1.1.1.1.0 in
      let o = ltb-false 5 r.order h.0 in
      let p : (i : ℕ) → padding r i ≤ 12 = λ i. padding_most r i refl in
      let axis : (i : ℕ) → i < 3 → Reaches r.order (zoom_axis (get_or r.dims i 0) (get_or (zoom_dims r) i 0) (padding r i)) = λ i l. zoom_axis_reaches r.order (get_or r.dims i 0) (padding r i) o (d i l).0 (d i l).1 (p i) (get_or (zoom_dims r) i 0) (out i l).1 (out i l).0.1 in
      record {
        admitted = record { order = o; lengths = d; all = b.all; some = (out 2 (lit≤ tt)).0.0; x = axis 0 (lit≤ tt); y = axis 1 (lit≤ tt); z = axis 2 (lit≤ tt); long = refl; rows = omega (arith, d 1 (lit≤ tt), p 1); row = omega (arith, d 2 (lit≤ tt), p 2) };
        values = b.values;
        codes = b.codes;
        room = b.room;
      }

  -- the output lengths of zoom are whole numbers, and lengths
  pub zoom_ready : first (zoom_checks asked r input output coverage work) ≡ Ok tt → Zoomed r × Lengths (zoom_dims r)
  zoom_ready e = let h = all_clear (zoom_checks asked r input output coverage work) e in (good_zooms r h.1.0 h.1.1.0, λ i l. (good_outputs r.dims (zoom_dims r) h.1.1.1.0 h.1.1.1.1.0 i l).0)

-- ---- an index that refusal 11 lets pass
pub good_indices : (out at : List ℕ) → first (index_checks out at) ≡ Ok tt → (i : ℕ) → i < 3 → get_or at i 0 < get_or out i 0
unfolding bad_indices
good_indices out at e i l = leb-false (get_or out i 0) (get_or at i 0) (none-at (λ (i : ℕ). bad_index (get_or out i 0) (get_or at i 0)) 3 (all_clear (index_checks out at) e).0 i l)
