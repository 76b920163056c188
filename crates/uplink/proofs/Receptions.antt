-- Laws of the time of reception.
-- Assumes nothing.
use mathlib.Core.Path.{◌≡◌, refl, sym}
use mathlib.Core.Bool.{true}
use Prim.Native.Nat.{ℕ, ◌+◌, ◌*◌, ◌/◌, ◌%◌, ◌<◌}
use native.Mathlib.Omega.{arith}
use borrow.Author.Tests.{leb-true, ne_eqb}
use Rattle.numbers.proofs.Every.{chosen}
use Rattle.std.specs.Prelude.{Option, Some, None}
use Rattle.uplink.specs.Reception.{reception_of, last_step, good_reception, reception_number}

-- a good time is read back
pub kept : (r : Option ℕ) → good_reception r ≡ true
    → reception_of (reception_number r % 256) (reception_number r / 256 % 256) (reception_number r / 65536 % 256) ≡ r
unfolding reception_of
kept (Some n) g =
    let h = leb-true n last_step g in
    let e : n / 65536 % 256 * 65536 + n / 256 % 256 * 256 + n % 256 ≡ n = omega arith in
    simp (e, ne_eqb n 0xFFFFFF (λ p. omega arith))
kept None g = refl

-- the number that three bytes say, none or not
pub number_in : (low middle high : ℕ) → reception_number (reception_of low middle high) ≡ high * 65536 + middle * 256 + low
unfolding reception_of
number_in low middle high =
    let n = high * 65536 + middle * 256 + low in
    chosen (λ r. reception_number r ≡ n) n 0xFFFFFF _ _ sym refl

-- three bytes, low first
pub bytes_back : {l m h : ℕ} → l < 256 → m < 256 → h < 256 → ((h * 65536 + m * 256 + l) % 256 ≡ l) × ((h * 65536 + m * 256 + l) / 256 % 256 ≡ m) × ((h * 65536 + m * 256 + l) / 65536 % 256 ≡ h)
bytes_back a b d = (omega arith, omega arith, omega arith)
