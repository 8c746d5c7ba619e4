-- What the two counts of the door are for: lent so much, no call is refused for the length of its work or of zoom's output.
use Prim.Native.Nat.{ℕ}
use mathlib.Core.Path.{◌≡◌, refl}
use mathlib.Core.Bool.{Bool, true, false, cond}
use mathlib.Core.List.{[], ◌∷◌}
use lib.Dec.{eqb, ltb, lit≤}
use lib.Ieee.{Float, nan}
use lib.ListN.{get_or}
use Rattle.exact.specs.Rounded.{num}
use Rattle.border.specs.declared.BorderMode.{BorderMode}
use Rattle.border.specs.declared.BorderMode.TheVariants.{Constant}
use Rattle.axis.specs.Coordinate.{pads}
use Rattle.axis.specs.Length.{output_length}
use Rattle.request.specs.declared.Request.{Request}
use Rattle.request.specs.Sizes.{needed, zoom_dims}
use Rattle.request.specs.Conditions.{bad_length, bad_lengths, bad_zoom, bad_factors, zooms_slice, zooms_slices, bad_output, bad_outputs}
use Rattle.lists.proofs.Somes.{none-at}
use Rattle.numbers.specs.Numbers.{is_mode, mode_of, request_of}
use Rattle.vurelika.specs.Door.{zoom_length, work_count}

-- a length that 3, 4, 12 and 5 let pass
zoom-length : (length : ℕ) (factor : Float) → bad_length length ≡ false → bad_zoom factor ≡ false → zooms_slice length (output_length length factor) ≡ false → bad_output length (output_length length factor) ≡ false → output_length length factor ≡ zoom_length length factor
unfolding zoom_length
zoom-length length factor p q t s = simp (p, q, t, s)

module _ (d0 d1 d2 : ℕ) (f0 f1 f2 : Float) (order prefilter mode : ℕ) (fill : Float) where
  abbrev asked : Request
  asked = request_of d0 d1 d2 f0 f1 f2 order prefilter mode fill

  -- ---- work
  -- the number of a mode tells whether it pads
  pads_by_number : pads (mode_of mode (num 0)) ≡ pads (mode_of mode fill)
  unfolding mode_of
  pads_by_number = go (eqb mode 0) _
    where
      go : (constant : Bool) (other : BorderMode) → pads (cond constant (Constant (num 0)) other) ≡ pads (cond constant (Constant fill) other)
      go true other = refl
      go false other = refl

  -- where 255, 1 and 3 do not answer, the count is what every such call asks for
  pub work_count_needed : is_mode mode ≡ true → ltb 5 order ≡ false → bad_lengths asked.dims ≡ false → work_count d0 d1 d2 order prefilter mode ≡ needed asked
  unfolding work_count
  work_count_needed known low long = simp (known, low, long, pads_by_number)

  -- ---- zoom's output
  -- where 3, 4, 12 and 5 do not answer, the lengths are those of zoom's output
  pub zoom_lengths : bad_lengths asked.dims ≡ false → bad_factors bad_zoom asked.factors ≡ false → zooms_slices asked.dims (zoom_dims asked) ≡ false → bad_outputs asked.dims (zoom_dims asked) ≡ false → zoom_dims asked ≡ zoom_length d0 f0 ∷ zoom_length d1 f1 ∷ zoom_length d2 f2 ∷ []
  unfolding bad_lengths bad_factors zooms_slices bad_outputs
  zoom_lengths long sound slice out =
      let p = none-at (λ (i : ℕ). bad_length (get_or asked.dims i 0)) 3 long in
      let q = none-at (λ (i : ℕ). bad_zoom (get_or asked.factors i nan)) 3 sound in
      let t = none-at (λ (i : ℕ). zooms_slice (get_or asked.dims i 0) (get_or (zoom_dims asked) i 0)) 3 slice in
      let s = none-at (λ (i : ℕ). bad_output (get_or asked.dims i 0) (get_or (zoom_dims asked) i 0)) 3 out in
      λ i. zoom-length d0 f0 (p 0 (lit≤ tt)) (q 0 (lit≤ tt)) (t 0 (lit≤ tt)) (s 0 (lit≤ tt)) i
      ∷ zoom-length d1 f1 (p 1 (lit≤ tt)) (q 1 (lit≤ tt)) (t 1 (lit≤ tt)) (s 1 (lit≤ tt)) i
      ∷ zoom-length d2 f2 (p 2 (lit≤ tt)) (q 2 (lit≤ tt)) (t 2 (lit≤ tt)) (s 2 (lit≤ tt)) i
      ∷ []
