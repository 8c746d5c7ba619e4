-- The manual's letter strips at L = 4, with the voxels 0 1 2 3 for a b c d: each stands where the strip has it, and none where Constant's has k. Only the left half of Wrap's strip, (d b c d |, is against the manual's own sentence, in all four letters: by the sentence c, a or d, b, c stand there.
use Prim.Native.Nat.{ℕ, zero, suc, ◌<◌}
use native.Mathlib.Omega.{arith}
use mathlib.Core.Path.{◌≡◌, refl}
use mathlib.Core.Logic.{inl, inr}
use mathlib.Core.List.{List, [], ◌∷◌}
use lib.IntN.{ℤ, pos, negsuc, suc_ℤ, ◌+ℤ◌, ◌*ℤ◌}
use lib.Signed.{le_z, lt_z, le_z_yes, lt_z_yes}
use lib.Dec.{T, lit≤, lit<}
use lib.Ieee.{Float}
use Rattle.exact.specs.Whole.{mod_z}
use Rattle.border.specs.declared.BorderMode.{BorderMode}
use Rattle.border.specs.declared.BorderMode.TheVariants.{Constant, Mirror, Nearest, Reflect, Wrap, Replicate}
use Rattle.border.specs.Manual.{Apart, Rule}
use Rattle.border.specs.Once.{None}
use Rattle.border.proofs.Once.{wrap_rest, stands_once}

-- the voxels of a strip from coordinate n on
abbrev Strip : BorderMode → ℤ → List ℕ → Type 0
Strip mode n [] = Unit
Strip mode n (i ∷ is) = Rule mode 4 n i × Strip mode (suc_ℤ n) is

-- from coordinate n on, no voxel at any of k coordinates
abbrev Blank : BorderMode → ℤ → ℕ → Type 0
Blank mode n zero = Unit
Blank mode n (suc k) = None mode 4 n × Blank mode (suc_ℤ n) k

-- from coordinate n on, none of these voxels
abbrev Barred : BorderMode → ℤ → List ℕ → Type 0
Barred mode n [] = Unit
Barred mode n (i ∷ is) = (Rule mode 4 n i → ⊥) × Barred mode (suc_ℤ n) is

own : {p : ℕ} {n m : ℤ} (k : ℤ) → n ≡ m +ℤ pos p *ℤ k → Apart p n m
own k e = record { times = k; equal = e }

-- (d c b | a b c d | c b a)
pub mirror_strip : Strip Mirror (negsuc 2) (3 ∷ 2 ∷ 1 ∷ 0 ∷ 1 ∷ 2 ∷ 3 ∷ 2 ∷ 1 ∷ 0 ∷ [])
mirror_strip = (
  inl (own (negsuc 0) refl),
  (
    inr (own (pos 0) refl),
    (
      inr (own (pos 0) refl),
      (
        inl (own (pos 0) refl),
        (
          inl (own (pos 0) refl),
          (
            inl (own (pos 0) refl),
            (
              inl (own (pos 0) refl),
              (inr (own (pos 1) refl), (inr (own (pos 1) refl), (inr (own (pos 1) refl), tt))),
            ),
          ),
        ),
      ),
    ),
  ),
)

-- (d c b a | a b c d | d c b a)
pub reflect_strip : Strip Reflect (negsuc 3) (3 ∷ 2 ∷ 1 ∷ 0 ∷ 0 ∷ 1 ∷ 2 ∷ 3 ∷ 3 ∷ 2 ∷ 1 ∷ 0 ∷ [])
reflect_strip = (
  inr (own (pos 0) refl),
  (
    inr (own (pos 0) refl),
    (
      inr (own (pos 0) refl),
      (
        inr (own (pos 0) refl),
        (
          inl (own (pos 0) refl),
          (
            inl (own (pos 0) refl),
            (
              inl (own (pos 0) refl),
              (
                inl (own (pos 0) refl),
                (inr (own (pos 1) refl), (inr (own (pos 1) refl), (inr (own (pos 1) refl), (inr (own (pos 1) refl), tt)))),
              ),
            ),
          ),
        ),
      ),
    ),
  ),
)

-- (a a a a | a b c d | d d d d)
pub nearest_strip : Strip Nearest (negsuc 3) (0 ∷ 0 ∷ 0 ∷ 0 ∷ 0 ∷ 1 ∷ 2 ∷ 3 ∷ 3 ∷ 3 ∷ 3 ∷ 3 ∷ [])
nearest_strip = (
  inr (inl (lt_z_yes tt, refl)),
  (
    inr (inl (lt_z_yes tt, refl)),
    (
      inr (inl (lt_z_yes tt, refl)),
      (
        inr (inl (lt_z_yes tt, refl)),
        (
          inl refl,
          (
            inl refl,
            (
              inl refl,
              (
                inl refl,
                (inr (inr (le_z_yes tt, refl)), (inr (inr (le_z_yes tt, refl)), (inr (inr (le_z_yes tt, refl)), (inr (inr (le_z_yes tt, refl)), tt)))),
              ),
            ),
          ),
        ),
      ),
    ),
  ),
)

-- the same strip: Replicate is held to it too
pub replicate_strip : Strip Replicate (negsuc 3) (0 ∷ 0 ∷ 0 ∷ 0 ∷ 0 ∷ 1 ∷ 2 ∷ 3 ∷ 3 ∷ 3 ∷ 3 ∷ 3 ∷ [])
replicate_strip = nearest_strip

-- (k k k k | a b c d | k k k k)
pub constant_strip : (fill : Float) → Blank (Constant fill) (negsuc 3) 4 × Strip (Constant fill) (pos 0) (0 ∷ 1 ∷ 2 ∷ 3 ∷ []) × Blank (Constant fill) (pos 4) 4
constant_strip fill = (
  (low (negsuc 3) tt, (low (negsuc 2) tt, (low (negsuc 1) tt, (low (negsuc 0) tt, tt)))),
  (refl, (refl, (refl, (refl, tt)))),
  (high (pos 4) tt, (high (pos 5) tt, (high (pos 6) tt, (high (pos 7) tt, tt)))),
)
  where
    low : (n : ℤ) → T (lt_z n (pos 0)) → None (Constant fill) 4 n
    low n t = (stands_once (Constant fill) 4 n (lit≤ tt)).0 (inl (lt_z_yes t))

    high : (n : ℤ) → T (le_z (pos 4) n) → None (Constant fill) 4 n
    high n t = (stands_once (Constant fill) 4 n (lit≤ tt)).0 (inr (le_z_yes t))

-- the sentence's (c a b c | a b c d | b c a b), the first a also d
pub wrap_strip : Strip Wrap (negsuc 3) (2 ∷ 0 ∷ 1 ∷ 2 ∷ 0 ∷ 1 ∷ 2 ∷ 3 ∷ 1 ∷ 2 ∷ 0 ∷ 1 ∷ []) × Rule Wrap 4 (negsuc 2) 3
wrap_strip = (
  (
    own (negsuc 1) refl,
    (
      own (negsuc 0) refl,
      (
        own (negsuc 0) refl,
        (
          own (negsuc 0) refl,
          (
            own (pos 0) refl,
            (
              own (pos 0) refl,
              (
                own (pos 0) refl,
                (
                  own (pos 0) refl,
                  (own (pos 1) refl, (own (pos 1) refl, (own (pos 2) refl, (own (pos 2) refl, tt)))),
                ),
              ),
            ),
          ),
        ),
      ),
    ),
  ),
  own (negsuc 1) refl,
)

-- (d b c d |: the sentence allows none of these four there
pub wrap_strip_left : Barred Wrap (negsuc 3) (3 ∷ 1 ∷ 2 ∷ 3 ∷ [])
wrap_strip_left = (
  bar (negsuc 3) 3 (lit< tt) (λ e. omega arith) (λ _ e. omega arith),
  (
    bar (negsuc 2) 1 (lit< tt) (λ e. omega arith) (λ e _. omega arith),
    (
      bar (negsuc 1) 2 (lit< tt) (λ e. omega arith) (λ e _. omega arith),
      (bar (negsuc 0) 3 (lit< tt) (λ e. omega arith) (λ _ e. omega arith), tt),
    ),
  ),
)
  where
    bar : (n : ℤ) (i : ℕ) → i < 4 → (mod_z n 3 ≡ i → ⊥) → (i ≡ 3 → mod_z n 3 ≡ 0 → ⊥) → Rule Wrap 4 n i → ⊥
    bar n i l f g h = elim (wrap_rest 4 n (lit≤ tt) i (record { voxel = l; rule = h })) [ inl e ↦ f e | inr e ↦ g e.0 e.1 ]
