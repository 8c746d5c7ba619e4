-- At a whole coordinate the manual's rule lets one voxel stand; none beyond the border in Constant; and in Wrap, at multiples of L - 1, the first and the last.
use mathlib.Core.Path.{◌≡◌, refl, sym, ap, ◌∙◌, subst}
use mathlib.Core.Logic.{◌⊎◌, inl, inr}
use Prim.Native.Nat.{ℕ, zero, suc, ◌+◌, ◌-◌, ◌*◌, ◌/◌, ◌%◌, ◌≤◌, ◌<◌, zero-le}
use native.Mathlib.Nat.{sub-zero, mul-suc, mod-lt, mod-eq_of_lt, add-mul-mod_self_left, le_of_lt}
use native.Mathlib.Omega.{arith}
use lib.IntN.{ℤ, pos, negsuc, neg_ℤ, nat_abs, pred_ℤ, ◌+ℤ◌, ◌-ℤ◌, ◌*ℤ◌, +ℤ_comm, +ℤ_assoc, *ℤ_comm, pred_ℤ-*ℤ, -ℤ-+ℤ_cancel, neg_ℤ-neg_ℤ, pos-ne-negsuc}
use lib.Signed.{◌≤ℤ◌, ◌<ℤ◌, le_z_yes, lt_z_yes, clash_ℤ}
use lib.Dec.{ltb→lt, leb→le, lt→ltb, le→leb}
use lib.Ieee.{Float}
use Rattle.exact.specs.Whole.{mod_z}
use Rattle.exact.proofs.Is.{diff_neg, diff_pos}
use Rattle.exact.proofs.Modulo.{mod-le}
use Rattle.border.specs.declared.BorderMode.{BorderMode}
use Rattle.border.specs.declared.BorderMode.TheVariants.{Constant, Mirror, Nearest, Reflect, Wrap, Replicate}
use Rattle.border.specs.Manual.{Apart, Replicated, Rule, Stands}
use Rattle.border.specs.Once.{One, None, Ends, Once}
use Rattle.border.proofs.Landing.{sides}
use Rattle.border.proofs.Periods.{turned, up_own, down_own, parts, next_multiple}

-- ---- a voxel i below the period, a whole number of periods from n, is n modulo the period
module _ {p : ℕ} {n : ℤ} where
  pub own_rest : {i : ℕ} → i < p → Apart p n (pos i) → mod_z n p ≡ i
  own_rest {i} l h = ap (λ (z : ℤ). mod_z z p) h.equal ∙ go h.times
    where
      go : (t : ℤ) → mod_z (pos i +ℤ pos p *ℤ t) p ≡ i
      go (pos k) = add-mul-mod_self_left i p k ∙ mod-eq_of_lt l
      go (negsuc k) =
          let e : p * suc k - i ≡ suc (p - suc i + p * k) = omega (arith, mul-suc p k) in
          let r : (p - suc i + p * k) % p ≡ p - suc i = add-mul-mod_self_left (p - suc i) p k ∙ mod-eq_of_lt (omega arith) in
          ap (λ (z : ℤ). mod_z z p) (sym (diff_neg i (p * suc k) (omega (arith, mul-suc p k))) ∙ ap (λ (m : ℕ). neg_ℤ (pos m)) e) ∙ ap (λ (m : ℕ). p - suc m) r ∙ omega arith

  -- a reflection -i, one period on
  flipped : {i : ℕ} → i ≤ p → Apart p n (neg_ℤ (pos i)) → Apart p n (pos (p - i))
  flipped {i} l h = record {
    times = pred_ℤ h.times;
    equal =
        let P = pos p in
        let m = neg_ℤ (pos i) in
        let t = h.times in
        let one_less : P *ℤ pred_ℤ t ≡ P *ℤ t -ℤ P = *ℤ_comm P (pred_ℤ t) ∙ pred_ℤ-*ℤ t P ∙ ap (λ (z : ℤ). z -ℤ P) (*ℤ_comm t P) in
        h.equal ∙ ap (λ (z : ℤ). m +ℤ z) (sym (-ℤ-+ℤ_cancel (P *ℤ t) P) ∙ +ℤ_comm (P *ℤ t -ℤ P) P) ∙ sym (+ℤ_assoc m P (P *ℤ t -ℤ P))
        ∙ ap (λ (z : ℤ). z +ℤ (P *ℤ t -ℤ P)) (+ℤ_comm m P ∙ sym (diff_pos p i l)) ∙ ap (λ (z : ℤ). pos (p - i) +ℤ z) (sym one_less);
  }

-- and back
reflected : {p : ℕ} {n : ℤ} {r : ℕ} → r ≤ p → Apart p n (pos r) → Apart p n (neg_ℤ (pos (p - r)))
reflected {p} {n} {r} l h = subst (λ (m : ℤ). Apart p m (neg_ℤ (pos (p - r)))) (neg_ℤ-neg_ℤ n) (turned (flipped l (turned h)))

-- ---- n is a whole number of periods from n modulo the period
pub apart_rest : (p : ℕ) (n : ℤ) → 0 < p → Apart p n (pos (mod_z n p))
apart_rest p (pos a) P = up_own p a (a % p) (a / p) (parts a p)
apart_rest p (negsuc c) P = down_own p (suc c) (p - suc (c % p)) (suc (c / p)) (next_multiple (suc c) (suc (c % p)) p (c / p) (ap suc (parts c p) ∙ omega arith) (mod-lt c P))

module _ (L : ℕ) (n : ℤ) (least : 2 ≤ L) where
  -- ---- Mirror: the voxel is r = n modulo 2L - 2, or 2L - 2 - r
  mirror_rest : (i : ℕ) → Stands Mirror L n i → (mod_z n (2 * L - 2) ≡ i) ⊎ (mod_z n (2 * L - 2) + i ≡ 2 * L - 2)
  mirror_rest i s = go i s.voxel s.rule
    where
      go : (i : ℕ) → i < L → Rule Mirror L n i → (mod_z n (2 * L - 2) ≡ i) ⊎ (mod_z n (2 * L - 2) + i ≡ 2 * L - 2)
      go i l (inl h) = inl (own_rest (omega arith) h)
      go zero l (inr h) = inl (own_rest (omega arith) h)
      go (suc i) l (inr h) = inr (omega (arith, own_rest {i = 2 * L - 2 - suc i} (omega arith) (flipped (omega arith) h)))

  mirror_once : One Mirror L n
  mirror_once =
      let p = 2 * L - 2 in
      let r = mod_z n p in
      let apart : Apart p n (pos r) = apart_rest p n (omega arith) in
      let small : r < p = mod-le n p (omega arith) in
      elim (sides r L) [
        | inl l ↦ record {
          i = r;
          stands = record { voxel = l; rule = inl apart };
          only = λ j s. elim (mirror_rest j s) [ inl e ↦ sym e | inr e ↦ let v = s.voxel in omega arith ];
        }
        | inr l ↦ record {
          i = p - r;
          stands = record { voxel = omega arith; rule = inr (reflected (le_of_lt small) apart) };
          only = λ j s. elim (mirror_rest j s) [ inl e ↦ let v = s.voxel in omega arith | inr e ↦ omega arith ];
        }
      ]

  -- ---- Reflect: the voxel is r = n modulo 2L, or 2L - 1 - r
  reflect_rest : (i : ℕ) → Stands Reflect L n i → (mod_z n (2 * L) ≡ i) ⊎ (mod_z n (2 * L) + suc i ≡ 2 * L)
  reflect_rest i s =
      let v = s.voxel in
      elim s.rule [
        | inl h ↦ inl (own_rest (omega arith) h)
        | inr h ↦ inr (omega (arith, own_rest {i = 2 * L - suc i} (omega arith) (flipped {i = suc i} (omega arith) h)))
      ]

  reflect_once : One Reflect L n
  reflect_once =
      let p = 2 * L in
      let r = mod_z n p in
      let apart : Apart p n (pos r) = apart_rest p n (omega arith) in
      let small : r < p = mod-le n p (omega arith) in
      elim (sides r L) [
        | inl l ↦ record {
          i = r;
          stands = record { voxel = l; rule = inl apart };
          only = λ j s. elim (reflect_rest j s) [ inl e ↦ sym e | inr e ↦ let v = s.voxel in omega arith ];
        }
        | inr l ↦
            let e : p - r ≡ suc (p - r - 1) = omega arith in
            record {
              i = p - r - 1;
              stands = record { voxel = omega arith; rule = inr (subst (λ (m : ℕ). Apart p n (neg_ℤ (pos m))) e (reflected (le_of_lt small) apart)) };
              only = λ j s. elim (reflect_rest j s) [ inl e ↦ let v = s.voxel in omega arith | inr e ↦ omega arith ];
            }
      ]

  -- ---- Wrap: the voxel is r = n modulo L - 1; where r is 0, also L - 1
  wrap_first : Apart (L - 1) n (pos (L - 1)) → Apart (L - 1) n (pos 0)
  wrap_first h =
      let e : L - 1 - (L - 1) ≡ 0 = omega arith in
      subst (λ (m : ℕ). Apart (L - 1) n (neg_ℤ (pos m))) e (reflected {r = L - 1} (omega arith) h)

  wrap_last : Apart (L - 1) n (pos 0) → Apart (L - 1) n (pos (L - 1))
  wrap_last h = subst (λ (m : ℕ). Apart (L - 1) n (pos m)) (sub-zero (L - 1)) (flipped {i = 0} (omega arith) h)

  pub wrap_rest : (i : ℕ) → Stands Wrap L n i → (mod_z n (L - 1) ≡ i) ⊎ ((i ≡ L - 1) × (mod_z n (L - 1) ≡ 0))
  wrap_rest i s =
      let v = s.voxel in
      elim (sides i (L - 1)) [
        | inl l ↦ inl (own_rest l s.rule)
        | inr l ↦ let e : i ≡ L - 1 = omega arith in inr (e, own_rest (omega arith) (wrap_first (subst (λ (m : ℕ). Apart (L - 1) n (pos m)) e s.rule)))
      ]

  wrap_ends : Apart (L - 1) n (pos 0) → Ends Wrap L n
  wrap_ends h = record {
    first = record { voxel = omega arith; rule = h };
    last = record { voxel = omega arith; rule = wrap_last h };
    only = λ j s. elim (wrap_rest j s) [ inl e ↦ inl (sym e ∙ own_rest (omega arith) h) | inr e ↦ inr e.0 ];
  }

  wrap_once : (Apart (L - 1) n (pos 0) → ⊥) → One Wrap L n
  wrap_once off =
      let p = L - 1 in
      let r = mod_z n p in
      let apart : Apart p n (pos r) = apart_rest p n (omega arith) in
      let small : r < p = mod-le n p (omega arith) in
      record {
        i = r;
        stands = record { voxel = omega arith; rule = apart };
        only = λ j s. elim (wrap_rest j s) [ inl e ↦ sym e | inr e ↦ absurd (off (subst (λ (m : ℕ). Apart p n (pos m)) e.1 apart)) ];
      }

-- ---- Nearest and Replicate
same : {a b : ℕ} → pos a ≡ pos b → a ≡ b
same e = ap nat_abs e

edge_once : (mode : BorderMode) (L : ℕ) (n : ℤ) → 2 ≤ L → ((i : ℕ) → Replicated L n i → Rule mode L n i) → ((i : ℕ) → Rule mode L n i → Replicated L n i) → One mode L n
edge_once mode L (negsuc c) least to of = record {
  i = 0;
  stands = record { voxel = omega arith; rule = to 0 (inr (inl (lt_z_yes tt, refl))) };
  only = λ j s. elim (of j s.rule) [ inl e ↦ absurd (pos-ne-negsuc j c (sym e)) | inr o ↦ elim o [ inl h ↦ h.1 | inr h ↦ absurd h.0.le ] ];
}
edge_once mode L (pos a) least to of =
    elim (sides a L) [
      | inl l ↦ record {
        i = a;
        stands = record { voxel = l; rule = to a (inl refl) };
        only = λ j s. elim (of j s.rule) [ inl e ↦ sym (same e) | inr o ↦ elim o [ inl h ↦ omega (arith, ltb→lt a 0 h.0.lt) | inr h ↦ omega (arith, leb→le L a h.0.le) ] ];
      }
      | inr l ↦ record {
        i = L - 1;
        stands = record { voxel = omega arith; rule = to (L - 1) (inr (inr (le_z_yes (le→leb L a l), refl))) };
        only = λ j s. elim (of j s.rule) [ inl e ↦ omega (arith, same e, s.voxel) | inr o ↦ elim o [ inl h ↦ omega (arith, ltb→lt a 0 h.0.lt) | inr h ↦ h.1 ] ];
      }
    ]

-- ---- Constant
outside-none : (fill : Float) (L : ℕ) (n : ℤ) → (n <ℤ pos 0) ⊎ (pos L ≤ℤ n) → None (Constant fill) L n
outside-none fill L n (inl h) i s = clash_ℤ h (subst (λ (z : ℤ). pos 0 ≤ℤ z) (sym s.rule) (le_z_yes (le→leb 0 i zero-le)))
outside-none fill L n (inr h) i s = clash_ℤ (subst (λ (z : ℤ). z <ℤ pos L) (sym s.rule) (lt_z_yes (lt→ltb i L s.voxel))) h

constant_once : (fill : Float) (L : ℕ) (n : ℤ) → pos 0 ≤ℤ n → n <ℤ pos L → One (Constant fill) L n
constant_once fill L (pos a) h k = record { i = a; stands = record { voxel = ltb→lt a L k.lt; rule = refl }; only = λ j s. sym (same s.rule) }
constant_once fill L (negsuc c) h k = absurd h.le

-- ---- the theorem
pub stands_once : (mode : BorderMode) (L : ℕ) (n : ℤ) → 2 ≤ L → Once mode L n
stands_once (Constant fill) L n least = (outside-none fill L n, constant_once fill L n)
stands_once Mirror L n least = mirror_once L n least
stands_once Nearest L n least = edge_once Nearest L n least (λ i h. h) (λ i h. h)
stands_once Reflect L n least = reflect_once L n least
stands_once Wrap L n least = (wrap_ends L n least, wrap_once L n least)
stands_once Replicate L n least = edge_once Replicate L n least (λ i h. h) (λ i h. h)
