-- Of a volume that a whole shift moved, the code 0 stands at as many voxels as stay inside, and 1 at the rest.
use Prim.Native.Nat.{ℕ, zero, suc, ◌+◌, ◌-◌, ◌*◌, ◌≤◌, ◌<◌, suc-le-suc, zero-le}
use native.Mathlib.Nat.{le_of_suc-le-suc, zero-lt-suc}
use native.Mathlib.Omega.{arith}
use mathlib.Core.Path.{◌≡◌, refl, sym, ap, ◌∙◌, subst}
use mathlib.Core.Logic.{inl, inr}
use mathlib.Core.Bool.{Bool, true, false, ◌&&◌, cond}
use mathlib.Core.List.{List, [], ◌∷◌}
use lib.IntN.{ℤ, pos, negsuc, neg_ℤ, ◌-ℤ◌}
use lib.Signed.{lt_z}
use lib.Dec.{T, leb, ltb, eqb, ltb→lt, lt→ltb, le→leb, lit≤, leb-zero, leb-suc-zero, leb-suc-suc}
use lib.ListN.{length, get_or}
use lib.Ieee.{Float}
use borrow.Author.Tests.{leb-true, leb-false, ltb-true, ltb-false, lt-ltb}
use Rattle.exact.proofs.Value.{bool_ext}
use Rattle.exact.proofs.Is.{diff_pos, diff_neg}
use Rattle.request.specs.declared.Request.{Request}
use Rattle.refusal.specs.Refusals.{number_in}
use Rattle.resample.specs.Call.{Call, counts_in, shift_call}
use Rattle.promises.specs.Entries.{shifting}
use Rattle.promises.specs.Marks.{bearing}
use Rattle.promises.specs.Moves.{Outside, Moved}
use Rattle.promises.specs.Place.{Inside, code}
use Rattle.promises.specs.Stays.{stay, Stays}
use Rattle.promises.proofs.Succeeding.{succeeds}
use Rattle.promises.proofs.Places.{each_place}
use Rattle.promises.proofs.Counted.{counted}
use Rattle.promises.proofs.Tallies.{how_many, bearing_is, alike, all, none, bearing-none, volume}

-- ---- one axis: whether index i of n, less the shift, lies inside
abbrev stays : ℕ → ℤ → ℕ → Bool
stays n (pos p) i = leb p i
stays n (negsuc p) i = ltb (i + suc p) n

abbrev Goes : ℕ → ℤ → Bool → Type 0
Goes n z true = (x : ℕ) × (x < n) × (z ≡ pos x)
Goes n z false = Outside n z

goes : (n : ℕ) (z : ℤ) (i : ℕ) → i < n → Goes n (pos i -ℤ z) (stays n z i)
goes n (pos p) i l = go (leb p i) refl
  where
    negative : (n : ℕ) → 0 < n → T (lt_z (neg_ℤ (pos n)) (pos 0))
    negative zero h = absurd (omega arith)
    negative (suc n) h = tt

    go : (b : Bool) → leb p i ≡ b → Goes n (pos i -ℤ pos p) b
    go true e = let h = leb-true p i e in (i - p, omega arith, sym (diff_pos i p h))
    go false e = let h = leb-false p i e in inl (subst (λ (z : ℤ). T (lt_z z (pos 0))) (diff_neg i p h) (negative (p - i) (omega arith)))
goes n (negsuc p) i l = go (ltb (i + suc p) n) refl
  where
    go : (b : Bool) → ltb (i + suc p) n ≡ b → Goes n (pos (i + suc p)) b
    go true e = (i + suc p, ltb-true (i + suc p) n e, refl)
    go false e = inr (le→leb n (i + suc p) (ltb-false (i + suc p) n e))

-- as many as `stay` says
from : (p n : ℕ) → how_many (λ i. leb p i) n ≡ n - p
unfolding how_many
from p zero = omega arith
from zero (suc n) = alike (suc n) (λ i. leb 0 i) (λ i. true) (λ i l. leb-zero i) ∙ all (suc n) ∙ omega arith
from (suc p) (suc n) = simp (leb-suc-zero, leb-suc-suc) (omega (arith, from p n))

under : (b n : ℕ) → b ≤ n → how_many (λ i. ltb i b) n ≡ b
unfolding how_many
under zero n h = alike n (λ i. ltb i 0) (λ i. false) (λ i l. leb-suc-zero i) ∙ none n
under (suc b) zero h = absurd (omega arith)
under (suc b) (suc n) h = simp (lt-ltb 0 (suc b) (zero-lt-suc b), leb-suc-suc) (omega (arith, under b n (le_of_suc-le-suc h)))

staying : (n : ℕ) (z : ℤ) → how_many (stays n z) n ≡ stay n z
staying n (pos p) = from p n
staying n (negsuc p) = alike n (stays n (negsuc p)) (λ i. ltb i (n - suc p)) (λ i l. less i) ∙ under (n - suc p) n (omega arith)
  where
    less : (i : ℕ) → ltb (i + suc p) n ≡ ltb i (n - suc p)
    less i = bool_ext (ltb (i + suc p) n) (ltb i (n - suc p)) (λ t. lt→ltb i (n - suc p) (omega (arith, ltb→lt (i + suc p) n t))) (λ t. lt→ltb (i + suc p) n (omega (arith, ltb→lt i (n - suc p) t)))

-- ---- codes that are 0 or 1
two_codes : (l : List ℕ) → ((m : ℕ) → m < length l → get_or l m 0 ≤ 1) → bearing 0 l + bearing 1 l ≡ length l
unfolding bearing
two_codes [] h = refl
two_codes (c ∷ cs) h = one c (h 0 (zero-lt-suc (length cs))) (two_codes cs (λ m l. h (suc m) (suc-le-suc l)))
  where
    one : (c : ℕ) → c ≤ 1 → bearing 0 cs + bearing 1 cs ≡ length cs → bearing 0 (c ∷ cs) + bearing 1 (c ∷ cs) ≡ length (c ∷ cs)
    one zero l t = omega arith
    one (suc zero) l t = omega arith
    one (suc (suc c)) l t = absurd (omega arith)

-- ---- the volume
module _ (d : List ℕ) (s : ℕ → ℤ) (fill : Float) (before after : List Float) (codes : List ℕ) (h : Moved d s fill before after codes) where
  abbrev keeps : ℕ → ℕ → Bool
  keeps n i = stays (get_or d n 0) (s n) i

  code_by : (i j k : ℕ) → Inside d i j k → (a b c : Bool) → Goes (get_or d 0 0) (pos i -ℤ s 0) a → Goes (get_or d 1 0) (pos j -ℤ s 1) b → Goes (get_or d 2 0) (pos k -ℤ s 2) c → code d codes i j k ≡ cond (a && b && c) 0 1
  code_by i j k l true true true a b c = (h.inside i j k a.0 b.0 c.0 l (record { x = a.1; y = b.1; z = c.1 }) a.2 b.2 c.2).1
  code_by i j k l false b c out y z = (h.outside i j k l (inl out)).1
  code_by i j k l true false c x out z = (h.outside i j k l (inr (inl out))).1
  code_by i j k l true true false x y out = (h.outside i j k l (inr (inr out))).1

  code_moved : (i j k : ℕ) → Inside d i j k → code d codes i j k ≡ cond (keeps 0 i && keeps 1 j && keeps 2 k) 0 1
  code_moved i j k l = code_by i j k l (keeps 0 i) (keeps 1 j) (keeps 2 k) (goes (get_or d 0 0) (s 0) i l.x) (goes (get_or d 1 0) (s 1) j l.y) (goes (get_or d 2 0) (s 2) k l.z)

  pub shift_stays : length codes ≡ get_or d 0 0 * (get_or d 1 0 * get_or d 2 0) → Stays d s codes
  shift_stays long =
      let low : (m : ℕ) → m < length codes → get_or codes m 0 ≤ 1 = (λ m l. each_place d (λ (m : ℕ). get_or codes m 0 ≤ 1) (λ i j k l. subst (λ (c : ℕ). c ≤ 1) (sym (code_moved i j k l)) (at_most (keeps 0 i && keeps 1 j && keeps 2 k))) m (omega arith)) in
      record {
        computed =
            bearing_is 0 codes
            ∙ ap (how_many (λ m. eqb (get_or codes m 0) 0)) long
            ∙ volume (get_or d 0 0) (get_or d 1 0) (get_or d 2 0) (λ m. eqb (get_or codes m 0) 0) (keeps 0) (keeps 1) (keeps 2)
            (λ i j k x y z. ap (λ (c : ℕ). eqb c 0) (code_moved i j k (record { x = x; y = y; z = z })) ∙ is_zero (keeps 0 i && keeps 1 j && keeps 2 k))
            ∙ (λ t. staying (get_or d 0 0) (s 0) t * (staying (get_or d 1 0) (s 1) t * staying (get_or d 2 0) (s 2) t));
        rest = two_codes codes low ∙ long;
        none = (bearing-none 2 codes (λ m l e. omega (arith, low m l)), bearing-none 3 codes (λ m l e. omega (arith, low m l)));
      }
    where
      at_most : (b : Bool) → cond b 0 1 ≤ 1
      at_most true = zero-le
      at_most false = lit≤ tt

      is_zero : (b : Bool) → eqb (cond b 0 1) 0 ≡ b
      is_zero true = refl
      is_zero false = refl

-- ---- so the counts of a whole shift's call are the voxels that stay inside, the rest, and 0 twice
module _ (r : Request) (input output : List Float) (coverage : List ℕ) (work : List Float) (s : ℕ → ℤ) (fill : Float) where
  abbrev shifted : Call
  shifted = shift_call r input output coverage work

  abbrev inside : ℕ
  inside = stay (get_or r.dims 0 0) (s 0) * (stay (get_or r.dims 1 0) (s 1) * stay (get_or r.dims 2 0) (s 2))

  pub shift_counts : number_in shifted.answer ≡ 0 → Moved r.dims s fill input shifted.output shifted.coverage → counts_in shifted.answer ≡ record { computed = inside; filled = length output - inside; defaulted = 0; folded = 0 }
  shift_counts done moved =
      let c = counted shifting r input output coverage work done in
      let count = (succeeds r input output coverage work shifting done).passes.values in
      let h = shift_stays r.dims s fill input shifted.output shifted.coverage moved (c.codes ∙ count) in
      let computed : (counts_in shifted.answer).computed ≡ inside = omega (arith, c.each.computed, h.computed) in
      let filled : (counts_in shifted.answer).filled ≡ length output - inside = omega (arith, c.each.filled, h.computed, h.rest, count) in
      let defaulted : (counts_in shifted.answer).defaulted ≡ 0 = omega (arith, c.each.defaulted, h.none) in
      let folded : (counts_in shifted.answer).folded ≡ 0 = omega (arith, c.each.folded, h.none) in
      λ t. record { computed = computed t; filled = filled t; defaulted = defaulted t; folded = folded t }
