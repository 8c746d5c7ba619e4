-- "Modes: 0 Constant, 1 Mirror, 2 Nearest, 3 Reflect, 4 Wrap, 5 Replicate. `fill` is read in mode 0 alone. `prefilter` is on where it is not 0. `counts` has exactly as many places as there are codes."
use Rattle.std.specs.Prelude.{ℕ, Bool, not, cond, List, [], ◌∷◌, eqb, ltb, length, Float}
use Rattle.exact.specs.Rounded.{num}
use Rattle.border.specs.declared.BorderMode.{BorderMode}
use Rattle.border.specs.declared.BorderMode.TheVariants.{Constant, Mirror, Nearest, Reflect, Wrap, Replicate}
use Rattle.request.specs.declared.Request.{Request}
use Rattle.coverage.specs.declared.counts.Counts.{Counts}
use Rattle.coverage.specs.Coverage.{none}

-- ---- the numbers of the modes
abbrev pub is_mode : ℕ → Bool
is_mode mode = ltb mode 6

-- of the six numbers: of another it is never asked
unfoldable pub mode_of : ℕ → Float → BorderMode
mode_of mode fill =
    cond (eqb mode 0) (Constant fill)
    (cond (eqb mode 1) Mirror
    (cond (eqb mode 2) Nearest
    (cond (eqb mode 3) Reflect
    (cond (eqb mode 4) Wrap
    Replicate))))

-- ---- the request
abbrev pub request_of : ℕ → ℕ → ℕ → Float → Float → Float → ℕ → ℕ → ℕ → Float → Request
request_of d0 d1 d2 f0 f1 f2 order prefilter mode fill = record {
  dims = d0 ∷ d1 ∷ d2 ∷ [];
  factors = f0 ∷ f1 ∷ f2 ∷ [];
  order = order;
  prefilter = not (eqb prefilter 0);
  mode = mode_of mode fill;
}

-- without factors, which neither the filters nor the needed count read
abbrev pub plain_request_of : ℕ → ℕ → ℕ → ℕ → ℕ → ℕ → Float → Request
plain_request_of d0 d1 d2 order prefilter mode fill = request_of d0 d1 d2 (num 0) (num 0) (num 0) order prefilter mode fill

-- ---- the counts: a place for each code
abbrev pub places : ℕ
places = 4

abbrev pub tally : Counts → List ℕ
tally c = c.computed ∷ c.filled ∷ c.defaulted ∷ c.folded ∷ []

unfoldable pub cleared : List ℕ → List ℕ
cleared counts = cond (eqb (length counts) places) (tally none) counts
