-- Replicate's fold of any finite coordinate lies from 0 to L - 1.
use Prim.Native.Nat.{ℕ, ◌-◌, ◌≤◌, zero-le}
use native.Mathlib.Omega.{arith}
use mathlib.Core.Path.{◌≡◌, refl, ◌∙◌}
use mathlib.Core.Bool.{Bool, true, false, cond}
use lib.IntN.{pos}
use lib.Dec.{lit≤}
use lib.Ieee.{Float, lt}
use borrow.Author.Tests.{le-ltb}
use Rattle.exact.specs.Rounded.{◌⊖◌, num}
use Rattle.exact.specs.Whole.{Is}
use Rattle.exact.specs.Within.{Within}
use Rattle.exact.proofs.Is.{lt_is}
use Rattle.exact.proofs.Naturals.{num_is, minus, not_below}
use Rattle.exact.proofs.Withins.{is_within}
use Rattle.exact.proofs.Between.{Between, between, between_is}
use Rattle.border.specs.declared.BorderMode.TheVariants.{Replicate}
use Rattle.border.specs.Fold.{fold, fold_replicate}

pub replicate_between : {idx len : Float} {k L : ℕ} → Within k idx → Is len (pos L) → 1 ≤ L → L ≤ 4120 → Between (L - 1) (fold Replicate idx len)
unfolding fold fold_replicate
replicate_between {idx} {len} {k} {L} w is least most = go (lt idx (num 0)) (lt (len ⊖ num 1) idx) refl refl
  where
    last : Is (len ⊖ num 1) (pos (L - 1))
    last = minus is (num_is 1 (lit≤ tt)) least (omega arith)

    first : Is (num 0) (pos 0)
    first = num_is 0 (lit≤ tt)

    go : (under past : Bool) → lt idx (num 0) ≡ under → lt (len ⊖ num 1) idx ≡ past → Between (L - 1) (cond under (num 0) (cond past (len ⊖ num 1) idx))
    go true past p q = between {k = 53} (is_within 53 first zero-le) last (not_below first) (lt_is last first ∙ le-ltb (L - 1) 0 zero-le)
    go false true p q = between_is (omega arith) last
    go false false p q = between w last p q
