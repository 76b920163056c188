-- Laws of the uplink.
-- Assumes nothing.
use mathlib.Core.Path.{◌≡◌, refl, sym, ap, ◌∙◌}
use Prim.Native.Nat.{ℕ, ◌≤◌}
use mathlib.Core.List.{List, [], ◌∷◌}
use native.Mathlib.Omega.{arith}
use lib.ListN.{length, drop, get_or}
use lib.Seq.{take_all}
use borrow.Author.Tests.{eq-eqb, ne_eqb}
use Rattle.numbers.proofs.Bytes.{byte_at}
use Rattle.std.specs.Prelude.{Ok}
use Rattle.codec.specs.Reading.{fit, reading}
use Rattle.codec.proofs.Outcomes.{accepted}
use Rattle.message_types.specs.declared.Uplink.{Uplink}
use Rattle.uplink.specs.Uplink.{uplink_in, good_uplink, uplink_bytes, read_uplink}
use Rattle.uplink.specs.Claims.{UplinkWrittenRead, UplinkReadWritten}
use Rattle.uplink.proofs.Receptions.{kept, number_in, bytes_back}

-- what is read as an uplink is as long as one
pub sized : (m : List ℕ) {u : Uplink} → Ok u ≡ read_uplink m → length m ≡ 436
sized m e = (accepted 7 436 uplink_in good_uplink m (sym e)).0.1

pub written_read : UplinkWrittenRead
unfolding reading fit
written_read u payload g h =
    let e = kept u.reception g in
    let long : length (uplink_bytes u payload) ≡ 436 = omega arith in
    (simp e, simp (ne_eqb (length (uplink_bytes u payload)) 0 (λ z. omega arith), eq-eqb _ 436 long, e, g) (take_all 432 payload (omega arith)))

-- the bytes before the payload, one by one
parted : (m : List ℕ) → 4 ≤ length m → get_or m 0 0 ∷ get_or m 1 0 ∷ get_or m 2 0 ∷ get_or m 3 0 ∷ drop 4 m ≡ m
parted [] h = absurd (omega arith)
parted (a ∷ []) h = absurd (omega arith)
parted (a ∷ b ∷ []) h = absurd (omega arith)
parted (a ∷ b ∷ c ∷ []) h = absurd (omega arith)
parted (a ∷ b ∷ c ∷ d ∷ rest) h = refl

pub read_written : UplinkReadWritten
read_written m long bytes id =
    let b = bytes_back (byte_at m 1 bytes) (byte_at m 2 bytes) (byte_at m 3 bytes) in
    simp (number_in (get_or m 1 0) (get_or m 2 0) (get_or m 3 0), b.0, b.1, b.2)
    (ap (λ (x : ℕ). x ∷ get_or m 1 0 ∷ get_or m 2 0 ∷ get_or m 3 0 ∷ drop 4 m) (sym id) ∙ parted m (omega arith))
