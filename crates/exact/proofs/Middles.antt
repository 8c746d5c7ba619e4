-- A fraction below the middle between a float and the next one does not round past that float. So the quotient of a float a by a whole number p, with a below kp for a whole k, stays below k: its floor is exact.
use Rattle.std.proofs.Common.{◌≡◌, ℕ, zero, suc, ◌+◌, ◌-◌, ◌*◌, ◌/◌, ◌%◌, ◌^◌, ◌<◌, ◌≤◌, Bool, true, false, ◌⊎◌, pos, sym, refl, ap, ◌∙◌, subst, inl, inr, true≢false, le_trans, le_of_eq, le_refl, lt_of_lt_of_le, lt_of_le_of_lt, le_of_lt, mul-le-mul_right, zero-lt-suc, mul_assoc, suc-mul, mul_comm, div-lt_iff_lt-mul, add-mul, lt_of_mul-lt-mul_right, mul-le-mul_left, mul-lt-mul_of_pos_right, mul-pos, one-mul, pow-suc, lt_of_not-le, div-add-mod', le-div_iff_mul-le, mul-one, mul_right_comm, not-le_of_lt, div-mul-le_self, arith, lit≤, pow_pos, pow_mono, pow-add, shl_lt, lt-ltb}
use mathlib.Core.Logic.{dite}
use Prim.Native.Nat.{compare}
use native.Mathlib.Decide.{dec_le, dec_lt}
use lib.Ieee.{Float, nan, inf, fin, binary64, up, down, round, lt, size, nearest, units}
use lib.Ieee.Exact.{HasValue, units_val}
use lib.Ieee.Fits.{down_pos, core, round_is, round-fits}
use lib.Ieee.Back.{round_whole}
use Rattle.exact.specs.Rounded.{◌⊘◌, num}
use Rattle.exact.specs.Whole.{Is, W}
use Rattle.exact.specs.Floor.{floor_f}
use Rattle.exact.proofs.Value.{div_val, lt_val}
use Rattle.exact.proofs.Whole.{W_val}
use Rattle.exact.proofs.Is.{is_value}
use Rattle.exact.proofs.Bounds.{AtMost, HasSign, round_signed, round_at_most, round_at-least}
use Rattle.exact.proofs.Quotients.{dyadic, quotient, range_up}
use lib.Ieee.Digits.{size-lt, size-le, size_reaches}
use lib.Ieee.Nearest.{closest}
use Rattle.exact.proofs.Rounds.{nearest_lower}
use Rattle.exact.proofs.Over.{Over, rescaled}

-- ---- a float by its value
pub at_most_value : (x : Float) (s : Bool) (a c : ℕ) → HasValue x s a c → AtMost x a c
at_most_value nan s a c v = v
at_most_value (inf t) s a c v = v
at_most_value (fin t m e) s a c v = le_of_eq v.1

-- ---- n / u from c up to, not including, the middle between c and c + 1
closest_is : (n u c : ℕ) → 0 < u → c * u ≤ n → n * 2 < (c * 2 + 1) * u → closest n u ≡ c
closest_is n u c U a b =
    let w : (c * 2 + 1) * u ≡ c * u * 2 + u = add-mul (c * 2) 1 u ∙ ap (λ (z : ℕ). z + 1 * u) (mul_right_comm c 2 u) ∙ ap (λ (z : ℕ). c * u * 2 + z) (one-mul u) in
    let q : n / u ≡ c = quotient n u c U a (omega (arith, suc-mul c u)) in
    let r : n % u * 2 < u = omega (arith, div-add-mod' n u, ap (λ (z : ℕ). z * u) q) in
    ap (λ (z : ℕ). nearest z (compare (n % u * 2) u)) q ∙ nearest_lower c (n % u * 2) u r

-- as many digits are dropped as stand before the 53 kept
drop_is : (n d g : ℕ) → 0 < d → 2 ^ (52 + g) * d ≤ n → n < 2 ^ (53 + g) * d → size (n / d) - 53 ≡ g
drop_is n d g D a b =
    let w = n / d in
    let up : size w ≤ 53 + g = size-le w (53 + g) ((div-lt_iff_lt-mul D).1 b) in
    let lo : 52 + g < size w = lt_of_not-le (λ (k : size w ≤ 52 + g). not-le_of_lt (lt_of_lt_of_le (size-lt w) (pow_mono k)) ((le-div_iff_mul-le D).1 a)) in
    omega arith

module _ (n d c h : ℕ) (D : 0 < d) (least : 2 ^ 52 ≤ c) (most : c < 2 ^ 53) (H : h ≤ 1074) (under : n * 2 ^ h * 2 < (c * 2 + 1) * d) where
  inside : c * d ≤ n * 2 ^ h → HasValue (round binary64 false n d) false c (2 ^ h)
  inside l =
      let g = 1074 - h in
      let G = 2 ^ g in
      let N = n * 2 ^ 1074 in
      let U = d * G in
      let back : h + g ≡ 1074 = omega arith in
      let pows : 2 ^ h * G ≡ 2 ^ 1074 = sym (pow-add 2 h g) ∙ ap (λ (z : ℕ). 2 ^ z) back in
      let N-is : n * 2 ^ h * G ≡ N = mul_assoc n (2 ^ h) G ∙ ap (λ (z : ℕ). n * z) pows in
      let a : c * U ≤ N = le_trans (le_of_eq (sym (mul_assoc c d G))) (le_trans (mul-le-mul_right G l) (le_of_eq N-is)) in
      let b : N * 2 < (c * 2 + 1) * U = lt_of_le_of_lt (le_of_eq (ap (λ (z : ℕ). z * 2) (sym N-is) ∙ mul_right_comm (n * 2 ^ h) G 2)) (lt_of_lt_of_le (mul-lt-mul_of_pos_right under (pow_pos g)) (le_of_eq (mul_assoc (c * 2 + 1) d G))) in
      let lo : 2 ^ (52 + g) * d ≤ N = le_trans (le_of_eq (part 52 g)) (le_trans (mul-le-mul_right U least) a) in
      let hi : N < 2 ^ (53 + g) * d = lt_of_lt_of_le (up_to c N U b) (le_trans (mul-le-mul_right U most) (le_of_eq (sym (part 53 g)))) in
      let is : round binary64 false n d ≡ units binary64 false c g =
      round_is binary64 false n d ∙ ap (λ (k : ℕ). core binary64 false N d k) (drop_is N d g D lo hi) ∙ ap (λ (q : ℕ). units binary64 false q g) (closest_is N U c (mul-pos D (pow_pos g)) a b) in
      let wide : 53 + g ≤ 1074 + 1024 = omega arith in
      let small : c * G < 2 ^ (1074 + 1024) = lt_of_lt_of_le (shl_lt 53 g most) (pow_mono wide) in
      subst (λ (x : Float). HasValue x false c (2 ^ h)) (sym is)
      (rescaled (units binary64 false c g) false (c * G) (2 ^ 1074) c (2 ^ h) (pow_pos 1074) (mul_assoc c G (2 ^ h) ∙ ap (λ (z : ℕ). c * z) (mul_comm G (2 ^ h) ∙ pows)) (units_val binary64 false c g small))
    where
      part : (p g : ℕ) → 2 ^ (p + g) * d ≡ 2 ^ p * (d * 2 ^ g)
      part p g = ap (λ (z : ℕ). z * d) (pow-add 2 p g) ∙ mul_right_comm (2 ^ p) (2 ^ g) d ∙ mul_assoc (2 ^ p) d (2 ^ g)

      up_to : (c n u : ℕ) → n * 2 < (c * 2 + 1) * u → n < suc c * u
      up_to c n u b = omega (arith, add-mul (c * 2) 1 u, mul_right_comm c 2 u, suc-mul c u)

  pub round_below_middle : AtMost (round binary64 false n d) c (2 ^ h)
  round_below_middle =
      dite (dec_le (c * d) (n * 2 ^ h)) (λ l. at_most_value (round binary64 false n d) false c (2 ^ h) (inside l))
      (λ o. round_at_most binary64 false n d c (2 ^ h) D (pow_pos h) (omega arith) (dyadic false c h most H))

-- ---- the floats below a whole number K: K * 2 ^ g has 53 digits, or is 2 ^ 53
record Scaled (K : ℕ) : Type 0 where
  g : ℕ
  few : g ≤ 53
  upto : K * 2 ^ g ≤ 2 ^ 53
  over : 2 ^ 53 < K * 2 ^ g * 2

scaled : (K : ℕ) → 0 < K → K ≤ 2 ^ 53 → Scaled K
scaled K P M =
    let z = size (K - 1) in
    let g = 53 - z in
    let Z : z ≤ 53 = size-le (K - 1) 53 (omega arith) in
    let back : z + g ≡ 53 = omega arith in
    let pows : 2 ^ z * 2 ^ g ≡ 2 ^ 53 = sym (pow-add 2 z g) ∙ ap (λ (y : ℕ). 2 ^ y) back in
    let most : K ≤ 2 ^ z = omega (arith, size-lt (K - 1)) in
    record {
      g = g;
      few = omega arith;
      upto = le_trans (mul-le-mul_right (2 ^ g) most) (le_of_eq pows);
      over = lt_of_le_of_lt (le_of_eq (sym pows)) (lt_of_lt_of_le (mul-lt-mul_of_pos_right (half z (size_reaches (K - 1))) (pow_pos g)) (le_of_eq (mul_right_comm K 2 (2 ^ g))));
    }
  where
    half : (z : ℕ) → ((j : ℕ) → j < z → 2 ^ j ≤ K - 1) → 2 ^ z < K * 2
    half zero r = omega arith
    half (suc y) r = omega (arith, pow-suc 2 y, r y (le_refl (suc y)))

-- a float u / G below K is at most the float next below K
next-below : (u K G G' a : ℕ) → u < 2 ^ 53 → u < K * G → suc a ≡ K * G' → 2 ^ 53 < suc a * 2 → (G ≤ G') ⊎ (G' * 2 ≤ G) → u * G' ≤ a * G
next-below u K G G' a S l e o (inl f) =
    let x : suc u * G' ≤ K * G * G' = mul-le-mul_right G' l in
    let y : K * G * G' ≡ suc a * G = mul_right_comm K G G' ∙ ap (λ (z : ℕ). z * G) (sym e) in
    omega (arith, suc-mul u G', suc-mul a G)
next-below u K G G' a S l e o (inr f) =
    let x : u ≤ a * 2 = omega arith in
    let y : u * G' ≤ a * 2 * G' = mul-le-mul_right G' x in
    let z : a * (G' * 2) ≤ a * G = mul-le-mul_left a f in
    omega (arith, mul_assoc a 2 G', ap (λ (w : ℕ). a * w) (mul_comm 2 G'))

-- the float next below kp, divided by p, is below the middle between k and the float next below k
under_middle : (k Q H a c : ℕ) → 0 < k → suc a ≡ k * Q → suc c ≡ k * H → suc a ≤ 2 ^ 53 → 2 ^ 53 < suc c * 2 → a * H * 2 < (c * 2 + 1) * Q
under_middle k Q H a c P e f M o =
    let q : Q < H * 2 = lt_of_mul-lt-mul_right k (omega (arith, mul_comm Q k, mul_assoc k H 2, mul_comm (H * 2) k, ap (λ (z : ℕ). z * 2) f)) in
    let s : suc c * Q ≡ suc a * H = ap (λ (z : ℕ). z * Q) f ∙ mul_right_comm k H Q ∙ ap (λ (z : ℕ). z * H) (sym e) in
    omega (arith, suc-mul c Q, suc-mul a H, add-mul (c * 2) 1 Q, mul_right_comm c 2 Q)

through : (u a G G' H R p : ℕ) → 0 < G' → 0 < G → u * G' ≤ a * G → a * H * 2 < R * (p * G') → u * H * 2 < R * (p * G)
through u a G G' H R p Z Y x y =
    lt_of_mul-lt-mul_right G'
    (lt_of_le_of_lt (le_trans (le_of_eq (mul_right_comm (u * H) 2 G' ∙ ap (λ (z : ℕ). z * 2) (mul_right_comm u H G'))) (le_trans (mul-le-mul_right 2 (mul-le-mul_right H x)) (le_of_eq (ap (λ (z : ℕ). z * 2) (mul_right_comm a G H) ∙ mul_right_comm (a * H) G 2))))
    (lt_of_lt_of_le (mul-lt-mul_of_pos_right y Y) (le_of_eq (mul_assoc R (p * G') G ∙ ap (λ (z : ℕ). R * z) (mul_right_comm p G' G) ∙ sym (mul_assoc R (p * G) G')))))

-- ---- the quotient of u / 2 ^ g by p is at most the float c / 2 ^ h next below k
pub record Below (n d k : ℕ) : Type 0 where
  pub c : ℕ
  pub h : ℕ
  pub less : c < k * 2 ^ h
  pub most : AtMost (round binary64 false n d) c (2 ^ h)

pub quotient_below : (u g p k : ℕ) → u < 2 ^ 53 → u < k * p * 2 ^ g → 0 < p → 0 < k → k * p ≤ 2 ^ 53 → Below u (p * 2 ^ g) k
quotient_below u g p k S l P K M =
    let s = scaled (k * p) (mul-pos K P) M in
    let t = scaled k K (le_trans (le_trans (le_of_eq (sym (mul-one k))) (mul-le-mul_left k P)) M) in
    let G' = 2 ^ s.g in
    let H = 2 ^ t.g in
    let a = k * p * G' - 1 in
    let c = k * H - 1 in
    let A : suc a ≡ k * p * G' = pred_of (k * p * G') (mul-pos (mul-pos K P) (pow_pos s.g)) in
    let C : suc c ≡ k * H = pred_of (k * H) (mul-pos K (pow_pos t.g)) in
    let o : 2 ^ 53 < suc a * 2 = subst (λ (z : ℕ). 2 ^ 53 < z * 2) (sym A) s.over in
    let v : 2 ^ 53 < suc c * 2 = subst (λ (z : ℕ). 2 ^ 53 < z * 2) (sym C) t.over in
    let m : suc a ≤ 2 ^ 53 = le_trans (le_of_eq A) s.upto in
    let n : suc c ≤ 2 ^ 53 = le_trans (le_of_eq C) t.upto in
    record {
      c = c;
      h = t.g;
      less = le_of_eq C;
      most =
          round_below_middle u (p * 2 ^ g) c t.g (mul-pos P (pow_pos g)) (omega arith) n (le_trans t.few (lit≤ tt))
          (through u a (2 ^ g) G' H (c * 2 + 1) p (pow_pos s.g) (pow_pos g)
          (next-below u (k * p) (2 ^ g) G' a S l A o (finer g s.g))
          (under_middle k (p * G') H a c K (A ∙ mul_assoc k p G') C m v));
    }
  where
    pred_of : (x : ℕ) → 0 < x → suc (x - 1) ≡ x
    pred_of x h = omega arith

    finer : (g j : ℕ) → (2 ^ g ≤ 2 ^ j) ⊎ (2 ^ j * 2 ≤ 2 ^ g)
    finer g j = dite (dec_lt j g) (λ l. inr (le_trans (le_of_eq (sym (pow-suc 2 j))) (pow_mono l))) (λ o. inl (pow_mono (below g j o)))
      where
        below : (g j : ℕ) → (j < g → ⊥) → g ≤ j
        below g j o = omega arith

-- so the floor of the rounded quotient is the quotient, rounded down
pub floor_round_quotient : (u g p : ℕ) → u < 2 ^ 53 → 0 < p → suc (u / (p * 2 ^ g)) * p ≤ 2 ^ 53 → floor_f (round binary64 false u (p * 2 ^ g)) ≡ W (pos (u / (p * 2 ^ g)))
floor_round_quotient u g p S P M =
    let d = p * 2 ^ g in
    let D : 0 < d = mul-pos P (pow_pos g) in
    let q = u / d in
    let b = quotient_below u g p (suc q) S (lt_of_lt_of_le ((div-lt_iff_lt-mul D).0 (le_refl (suc q))) (le_of_eq (sym (mul_assoc (suc q) p (2 ^ g))))) P (zero-lt-suc q) M in
    let Q : q ≤ 2 ^ 53 = le_of_lt (le_trans (le_trans (le_of_eq (sym (mul-one (suc q)))) (mul-le-mul_left (suc q) P)) M) in
    range_up (round binary64 false u d) q b.c (2 ^ b.h) (round_signed binary64 false u d) (round-fits binary64 false u d) Q (pow_pos b.h) b.less
    (round_at-least binary64 false u d q 1 D (zero-lt-suc 0) (le_trans (div-mul-le_self u d) (le_of_eq (sym (mul-one u)))) (round_whole binary64 false q Q)) b.most

-- ---- a quotient by a whole number p, its floor, and the multiple of p
module _ (g : ℕ) {a p : Float} {u P : ℕ} (h : Over (2 ^ g) a false u) (short : u < 2 ^ 53) (k : Is p (pos P)) (some : 0 < P) where
  quotient_is : a ⊘ p ≡ round binary64 false u (P * 2 ^ g)
  quotient_is =
      div_val binary64 a p false false u (2 ^ g) P 1 (pow_pos g) (zero-lt-suc 0) some h.value (is_value k some)
      ∙ ap (λ (n : ℕ). round binary64 false n (P * 2 ^ g)) (mul-one u)

  -- where a is below np, the rounded quotient is below n: it does not round up to n
  pub quotient_stays_below : (n : ℕ) → 0 < n → n * P ≤ 2 ^ 53 → u < n * P * 2 ^ g → lt (a ⊘ p) (num n) ≡ true
  quotient_stays_below n N M l =
      let b = quotient_below u g P n short l some N M in
      let Q = round binary64 false u (P * 2 ^ g) in
      ap (λ (x : Float). lt x (num n)) quotient_is
      ∙ less Q (num n) b.c (2 ^ b.h) n (round_signed binary64 false u (P * 2 ^ g)) b.most b.less (W_val (pos n) (le_trans (le_trans (le_of_eq (sym (mul-one n))) (mul-le-mul_left n some)) M))
    where
      less : (x y : Float) (a c n : ℕ) → HasSign false x → AtMost x a c → a < n * c → HasValue y false n 1 → lt x y ≡ true
      less nan y a c n s h l v = absurd h
      less (inf t) y a c n s h l v = absurd h
      less (fin true m e) y a c n s h l v = absurd (true≢false s)
      less (fin false m e) y a c n s h l v =
          lt_val (fin false m e) y false false (m * up e) (down e) n 1 (down_pos e) (zero-lt-suc 0) (refl, refl) v
          ∙ lt-ltb (m * up e * 1) (n * down e)
          (lt_of_mul-lt-mul_right c (lt_of_le_of_lt (le_trans (le_of_eq (ap (λ (z : ℕ). z * c) (mul-one (m * up e)))) h) (lt_of_lt_of_le (mul-lt-mul_of_pos_right l (down_pos e)) (le_of_eq (mul_right_comm n c (down e))))))

  pub floor_over : suc (u / (P * 2 ^ g)) * P ≤ 2 ^ 53 → floor_f (a ⊘ p) ≡ num (u / (P * 2 ^ g))
  floor_over M = ap floor_f quotient_is ∙ floor_round_quotient u g P short some M
