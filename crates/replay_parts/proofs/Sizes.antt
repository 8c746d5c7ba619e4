-- Padded volumes of three axes up to 256 long: their sizes fit.
use Rattle.std.proofs.Common.{ℕ, ◌*◌, ◌≤◌, mul-le-mul, arith, w64, Fits}

pub plane_fits : (b c : ℕ) → b ≤ 280 → c ≤ 280 → Fits w64 (b * c)
plane_fits b c p q =
    let h : b * c ≤ 280 * 280 = mul-le-mul p q in
    omega arith

pub volume_fits : (a b c : ℕ) → a ≤ 280 → b ≤ 280 → c ≤ 280 → Fits w64 (a * (b * c))
volume_fits a b c p q r =
    let h : a * (b * c) ≤ 280 * (280 * 280) = mul-le-mul p (mul-le-mul q r) in
    omega arith
