-- The places of lanes. Where lanes fill a buffer, a lane and a place along it make one place of the buffer, and each place is made so; in a volume a lane stays in its block.
use Prim.Native.Nat.{ℕ, ◌+◌, ◌*◌, ◌-◌, ◌/◌, ◌%◌, ◌≤◌, ◌<◌}
use mathlib.Core.Path.{◌≡◌, sym, ap, ◌∙◌}
use mathlib.Core.Logic.{inl, inr}
use native.Mathlib.Omega.{arith}
use native.Mathlib.Nat.{mul_comm, mul_assoc, add-mul, mod-lt, mod-eq_of_lt, div-one, div-add-mod', div-lt_iff_lt-mul, mul-add-div_right, mul-add-mod_self_right, mul-le-mul_right, le_antisymm, le_of_mul-le-mul_right}
use lib.Arith.{digits_lt, digits_div, digits_mod}
use Rattle.lanes.specs.Along.{along}
use Rattle.lanes.specs.declared.Grid.{Grid}
use Rattle.lanes.specs.Bookkeeping.{Fills}

-- a place of a lane is no further than the last
pub reaches : (i n stride : ℕ) → i < n → i * stride ≤ (n - 1) * stride
reaches i n stride h = mul-le-mul_right stride (omega arith)

-- ---- lanes side by side
beside : (lanes n j i : ℕ) → j < lanes → i < n → along n lanes (j * 1 + i * lanes) ≡ i
beside lanes n j i h k =
    let e : j * 1 + i * lanes ≡ i * lanes + j = omega arith in
    ap (λ (m : ℕ). along n lanes m) e ∙ ap (λ (q : ℕ). q % n) (digits_div i h) ∙ mod-eq_of_lt k

beside_back : (lanes n m : ℕ) → 1 ≤ lanes → m < lanes * n → m ≡ m % lanes * 1 + along n lanes m * lanes
beside_back lanes n m h l =
    let short : m / lanes < n = (div-lt_iff_lt-mul h).1 (omega (arith, mul_comm lanes n)) in
    let e : along n lanes m ≡ m / lanes = mod-eq_of_lt short in
    rw e (omega (arith, div-add-mod' m lanes))

-- ---- lanes end to end
behind : (n j i : ℕ) → i < n → along n 1 (j * n + i * 1) ≡ i
behind n j i k =
    let e : j * n + i * 1 ≡ j * n + i = omega arith in
    ap (λ (m : ℕ). along n 1 m) e ∙ ap (λ (q : ℕ). q % n) (div-one (j * n + i)) ∙ digits_mod j k

behind_back : (n m : ℕ) → m ≡ m / n * n + along n 1 m * 1
behind_back n m = rw div-one (omega (arith, div-add-mod' m n))

-- the lane of place m
pub record OnLane (grid : Grid) (m : ℕ) : Type 0 where
  pub lane : ℕ
  pub there : lane < grid.lanes
  pub is : m ≡ lane * grid.step + along grid.size grid.stride m * grid.stride

module _ {grid : Grid} {count : ℕ} (g : Fills grid count) where
  pub along_is : (j i : ℕ) → j < grid.lanes → i < grid.size → along grid.size grid.stride (j * grid.step + i * grid.stride) ≡ i
  along_is j i h k = elim g.lie [
    | inl e ↦ rw (e.0, e.1) (beside grid.lanes grid.size j i h k)
    | inr e ↦ rw (e.0, e.1) (behind grid.size j i k)
  ]

  pub inside : (j i : ℕ) → j < grid.lanes → i < grid.size → j * grid.step + i * grid.stride < count
  inside j i h k = rw g.all (elim g.lie [
    | inl e ↦ rw (e.0, e.1) (omega (arith, digits_lt k h, mul_comm grid.lanes grid.size))
    | inr e ↦ rw (e.0, e.1) (omega (arith, digits_lt h k))
  ])

  -- the end of a lane
  pub ends : (j : ℕ) → j < grid.lanes → j * grid.step + (grid.size - 1) * grid.stride < count
  ends j h = inside j (grid.size - 1) h (omega (arith, g.least))

  pub on_lane : (m : ℕ) → m < count → OnLane grid m
  on_lane m h =
      let l : m < grid.lanes * grid.size = rw g.all at h in
      let some : 0 < grid.size = omega (arith, g.least) in
      elim g.lie [
        | inl e ↦ rw (e.0, e.1) (record { lane = m % grid.lanes; there = mod-lt m g.some; is = beside_back grid.lanes grid.size m g.some l })
        | inr e ↦ rw (e.0, e.1) (record { lane = m / grid.size; there = (div-lt_iff_lt-mul some).1 l; is = behind_back grid.size m })
      ]

  pub step_some : 1 ≤ grid.step
  step_some = elim g.lie [ inl e ↦ omega arith | inr e ↦ omega (arith, g.least) ]

  pub stride_some : 1 ≤ grid.stride
  stride_some = elim g.lie [ inl e ↦ omega (arith, g.some) | inr e ↦ omega arith ]

  pub of_length : {length : ℕ} → length ≡ count → Fills grid length
  of_length e = rw e g

  -- two lanes share no place
  pub apart : (j k i h : ℕ) → j < grid.lanes → k < grid.lanes → i < grid.size → h < grid.size → j * grid.step + i * grid.stride ≡ k * grid.step + h * grid.stride → j ≡ k
  apart j k i h lj lk li lh e =
      let same : i ≡ h = sym (along_is j i lj li) ∙ ap (λ (m : ℕ). along grid.size grid.stride m) e ∙ along_is k h lk lh in
      let places : i * grid.stride ≡ h * grid.stride = ap (λ (x : ℕ). x * grid.stride) same in
      le_antisymm (le_of_mul-le-mul_right {k = grid.step} (omega arith) step_some) (le_of_mul-le-mul_right {k = grid.step} (omega arith) step_some)

-- ---- blocks of whole lanes, one after another
module _ (n s : ℕ) (some : 1 ≤ n) (apart : 1 ≤ s) where
  -- a place is as far along in each block
  pub along_block : (i m : ℕ) → along n s (i * (n * s) + m) ≡ along n s m
  along_block i m =
      let e : i * (n * s) + m ≡ i * n * s + m = omega (arith, mul_assoc i n s) in
      ap (λ (x : ℕ). along n s x) e ∙ ap (λ (q : ℕ). q % n) (mul-add-div_right apart (i * n) m) ∙ mul-add-mod_self_right i n (m / s)

  digits : (m : ℕ) → m ≡ m / s / n * n * s + along n s m * s + m % s
  digits m = omega (arith, div-add-mod' m s, ap (λ (q : ℕ). q * s) (div-add-mod' (m / s) n), add-mul (m / s / n * n) (along n s m) s)

  pub start_within : (m : ℕ) → along n s m * s ≤ m
  start_within m = omega (arith, digits m)

  -- the whole lane of a place lies in the place's block
  pub stays : (k m i : ℕ) → m < k * (n * s) → i < n → m - along n s m * s + i * s < k * (n * s)
  stays k m i h l =
      let q = m / s / n in
      let few : m / s < k * n = (div-lt_iff_lt-mul apart).1 (omega (arith, mul_assoc k n s)) in
      let block : q < k = (div-lt_iff_lt-mul some).1 few in
      let end : (q * n + i) * s + m % s < k * n * s = digits_lt (digits_lt block l) (mod-lt m apart) in
      omega (arith, digits m, add-mul (q * n) i s, mul_assoc k n s)
