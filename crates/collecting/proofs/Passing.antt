-- Which flips are found beyond demand 3, and which pass.
-- Assumes nothing.
use mathlib.Core.Path.{◌≡◌, refl, sym, ap, ◌∙◌}
use mathlib.Core.Bool.{Bool, true, cond, ◌&&◌}
use Prim.Native.Nat.{ℕ, zero, suc, ◌+◌, ◌*◌, ◌/◌, ◌%◌, ◌^◌, ◌<◌}
use mathlib.Core.List.{List, [], ◌∷◌, ◌++◌}
use native.Mathlib.Omega.{arith}
use lib.Dec.{eqb}
use lib.ListN.{take, drop, replicate}
use borrow.Author.Tests.{eq-eqb, eqb-true}
use Rattle.numbers.specs.Bits.{bit}
use Rattle.numbers.specs.Packing.{bits_of, bits_in}
use Rattle.numbers.proofs.Every.{both, same_test}
use Rattle.fcs.specs.Fcs.{bits, fcs}
use Rattle.fcs.specs.Flips.{flip, ones}
use Rattle.fcs.specs.Claims.{polynomial}
use Rattle.fcs.proofs.Border.{over_the_border, within_8}
use Rattle.fcs.proofs.Parity.{even}
use Rattle.fcs.proofs.Pairs.{pairs, singles}
use Rattle.fcs.proofs.Quotient.{remainder}
use Rattle.fcs.proofs.Rows.{ones_sequence}
use Rattle.fcs.proofs.Serial.{serial_bursts}
use Rattle.fcs.proofs.SerialBorder.{serial_border}
use Rattle.fcs.proofs.Shortest.{itself, number_of}
use Rattle.collecting.specs.Stream.{message, refused}
use Rattle.collecting.specs.Claims.{Answered, Flips, flipped, OddFound, PairsFound, EightFound, SerialFound, OnePasses, PairsPass, BurstsPass}
use Rattle.collecting.proofs.Found.{by_the_sequence, found}

pub odd_found : OddFound
odd_found before m flips low high f odd = found before m flips low high f (λ e. omega (arith, even flips low high f.low_byte e))

pub pairs_found : PairsFound
pairs_found before m flips f two = found before m flips _ _ f (pairs flips (omega (arith, f.long, f.most)) two)

pub eight_found : EightFound
eight_found before m flips low high i f all some = found before m flips low high f (within_8 flips low high i f.low_byte f.high_byte all some)

pub serial_found : SerialFound
serial_found before m flips i f all some = found before m flips 0 0 f (serial_bursts flips i all some)

-- flips that agree exactly where a test holds
by_test : (before m flips : List ℕ) (low high : ℕ) (t : Bool) → Flips m flips low high → eqb (fcs flips) (256 * high + low) ≡ t
    → Answered before (flipped m flips low high) (λ at. cond t (message (flip m flips)) (refused 5 at))
by_test before m flips low high t f e = rw e at (by_the_sequence before m flips low high f)

pub one_passes : OnePasses
one_passes m flips f =
    let s = fcs flips in
    let s-lt : s < 2 ^ 16 = (remainder flips).0 in
    let it : Flips m flips (s % 256) (s / 256) = record { some = f.some; most = f.most; long = f.long; low_byte = omega arith; high_byte = omega arith } in (
      s % 256,
      s / 256,
      it,
      (λ before. by_test before m flips (s % 256) (s / 256) true it (eq-eqb s (256 * (s / 256) + s % 256) (omega arith))),
      λ before l h g n. found before m flips l h g (λ e. n (omega (arith, g.low_byte), omega (arith, g.low_byte))),
    )

pub pairs_pass : PairsPass
pairs_pass before m flips low high f one other =
    let s = 256 * high + low in
    let s-lt : s < 2 ^ 16 = omega (arith, f.low_byte, f.high_byte) in
    by_test before m flips low high (eqb (polynomial (bits flips)) s) f
    (same_test _ _
    (λ e. let t : fcs flips ≡ s = eqb-true (fcs flips) s e in
    eq-eqb (polynomial (bits flips)) s
    (sym (singles flips (omega (arith, f.long, f.most)) one (ap (λ (n : ℕ). ones (bits_of 16 n)) t ∙ ones_sequence low high f.low_byte ∙ other)) ∙ t))
    (λ e. eq-eqb (fcs flips) s (itself flips s (eqb-true (polynomial (bits flips)) s e) s-lt)))

within_16 : (n b : ℕ) → ones (take 16 (drop (n * 8) (bits (replicate n 0 ++ b ∷ b ∷ 0 ∷ [])))) ≡ ones (bits (replicate n 0 ++ b ∷ b ∷ 0 ∷ []))
unfolding ones bits_of bits_in bit
within_16 zero b = refl
within_16 (suc n) b =
    let more : suc n * 8 ≡ suc (suc (suc (suc (suc (suc (suc (suc (n * 8)))))))) = omega arith in
    ap (λ (k : ℕ). ones (take 16 (drop k (bits (replicate (suc n) 0 ++ b ∷ b ∷ 0 ∷ []))))) more ∙ within_16 n b ∙ omega arith

last_byte : (n b : ℕ) → b < 256 → polynomial (bits (replicate n 0 ++ b ∷ [])) ≡ b
unfolding bits_of bits_in bit
last_byte zero b h = number_of 8 b 0 ∙ omega arith
last_byte (suc n) b h = last_byte n b h

-- flips that are their own remainder, and agree only where the high byte has none
in_low_byte : (before m flips : List ℕ) (low high : ℕ) → Flips m flips low high
    → fcs flips ≡ polynomial (bits flips) → (polynomial (bits flips) ≡ 256 * high + low → high ≡ 0)
    → Answered before (flipped m flips low high) (λ at. cond (eqb high 0 && eqb (polynomial (bits flips)) low) (message (flip m flips)) (refused 5 at))
in_low_byte before m flips low high f own none =
    let s = 256 * high + low in
    let p = polynomial (bits flips) in
    by_test before m flips low high (eqb high 0 && eqb p low) f
    (same_test _ _
    (λ e. let t : p ≡ s = sym own ∙ eqb-true (fcs flips) s e in
    let high0 : high ≡ 0 = none t in
    rw (eq-eqb high 0 high0) (eq-eqb p low (omega arith)))
    (λ e. let t = both (eqb high 0) (eqb p low) e in
    eq-eqb (fcs flips) s (own ∙ omega (arith, eqb-true high 0 t.0, eqb-true p low t.1))))

pub bursts_pass : BurstsPass
bursts_pass = record {
  answered = λ before m flips low high i f all some also.
      let b = over_the_border flips low high 16 i f.low_byte f.high_byte (omega arith) all some also in
      in_low_byte before m flips low high f b.0 (λ e. (b.1 e).0);
  serially = λ before m flips low high i f all some also.
      let b = serial_border flips low high i f.low_byte f.high_byte all also in
      in_low_byte before m flips low high f b.0 b.1;
  each = λ before m n b f.
      let flips = replicate n 0 ++ b ∷ [] in
      let own : fcs flips ≡ b = itself flips b (last_byte n b f.low_byte) (omega (arith, f.low_byte)) in
      (within_16 n b, by_test before m flips b 0 true f (eq-eqb (fcs flips) (256 * 0 + b) (omega arith)));
}
