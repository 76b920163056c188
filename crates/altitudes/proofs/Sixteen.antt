-- What std's casts between the two 16-bit types give: two's complement in a field of a message.
-- Assumes nothing.
use mathlib.Core.Path.{◌≡◌, refl, ap, ◌∙◌}
use mathlib.Core.Bool.{Bool, true, false}
use Prim.Native.Nat.{ℕ, ◌-◌, ◌*◌, ◌<◌, ◌≤◌}
use native.Mathlib.Omega.{arith}
use lib.Dec.{ltb}
use lib.IntN.{ℤ, pos, negsuc}
use borrow.Author.Tests.{ltb-true, ltb-false}
use Rattle.std.specs.Int.{w16, cast_signed, cast_unsigned}
use Rattle.numbers.specs.Signed.{signed_in, field_of}
use Rattle.numbers.proofs.Signed.{low, high}

pub signed : (n : ℕ) → n < 0x10000 → cast_signed w16 n ≡ signed_in 0x8000 n
signed n h = go (ltb n 0x8000) refl
  where
    go : (t : Bool) → ltb n 0x8000 ≡ t → cast_signed w16 n ≡ signed_in 0x8000 n
    go true e = low w16 0x8000 n (ltb-true n 0x8000 e) (omega arith)
    go false e =
        let above : 0x8000 ≤ n = ltb-false n 0x8000 e in
        let twice : n ≡ 0xFFFF - (2 * 0x8000 - 1 - n) = omega arith in
        ap (cast_signed w16) twice ∙ high w16 0x8000 n above (omega arith)

pub field : (z : ℤ) → cast_unsigned w16 z ≡ field_of 0x8000 z
unfolding field_of
field (pos n) = refl
field (negsuc k) = omega arith
