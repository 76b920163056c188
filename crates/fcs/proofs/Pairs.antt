-- One flip and two: where their check sequences can be a single one, and 0.
-- Assumes nothing.
use mathlib.Core.Path.{◌≡◌, sym, ap, ◌∙◌}
use Prim.Native.Nat.{ℕ, zero, suc, ◌^◌, ◌≤◌, ◌<◌}
use mathlib.Core.List.{List, [], ◌∷◌, foldl}
use native.Mathlib.Omega.{arith}
use lib.ListN.{length, replicate}
use Rattle.numbers.specs.Bits.{◌⊕◌, bit, AreBits}
use Rattle.numbers.specs.Packing.{bits_of}
use Rattle.numbers.proofs.Packing.{bits_in_lem, bits_of_lem, length-bits_of, length-bits_in}
use Rattle.numbers.proofs.Xor.{⊕_same}
use Rattle.fcs.specs.Fcs.{step, bits, fcs}
use Rattle.fcs.specs.Flips.{ones}
use Rattle.fcs.specs.Claims.{Pairs, Singles}
use Rattle.fcs.proofs.Division.{behind, own}
use Rattle.fcs.proofs.Powers.{powers}
use Rattle.fcs.proofs.Quotient.{remainder}
use Rattle.fcs.proofs.Shortest.{number_of}
use Rattle.fcs.proofs.Zeros.{leave, apart, blank_bits, shifted}

-- of bits of which one is 1: its place from the end, the remainder and the number
record Single (ws : List ℕ) : Type 0 where
  place : ℕ
  inside : place < length ws
  power : foldl step 0 ws ≡ leave place 1
  number : behind 0 ws ≡ 2 ^ place

single : (ws : List ℕ) → AreBits ws → ones ws ≡ 1 → Single ws
unfolding ones leave step bit ◌⊕◌
single [] hs s = absurd (omega arith)
single (zero ∷ ws) hs s =
    let r = single ws hs.1 (omega arith) in
    record { place = r.place; inside = omega (arith, r.inside); power = r.power; number = r.number }
single (suc zero ∷ ws) hs s =
    let rest : ws ≡ replicate (length ws) 0 = blank_bits ws (omega arith) in
    record { place = length ws; inside = omega arith; power = ap (foldl step 1) rest; number = ap (behind 1) rest ∙ shifted (length ws) 1 ∙ omega arith }
single (suc (suc w) ∷ ws) hs s = absurd (omega (arith, hs.0))

two : (ws : List ℕ) → AreBits ws → length ws ≤ 32767 → ones ws ≡ 2 → foldl step 0 ws ≡ 0 → ⊥
unfolding ones step bit ◌⊕◌
two [] hs l s e = omega arith
two (zero ∷ ws) hs l s e = two ws hs.1 (omega arith) (omega arith) e
two (suc zero ∷ ws) hs l s e =
    let r = single ws hs.1 (omega arith) in
    let same : leave (length ws) 1 ≡ leave r.place 1 = ⊕_same _ _ (ap (λ (n : ℕ). leave (length ws) 1 ⊕ n) (sym r.power) ∙ sym (apart ws 1 0) ∙ e) in
    omega (arith, powers (length ws) r.place (omega arith) (omega (arith, r.inside)) same, r.inside)
two (suc (suc w) ∷ ws) hs l s e = omega (arith, hs.0)

pub pairs : Pairs
unfolding fcs
pairs flips l s e = two (bits flips) (bits_in_lem 8 flips) (omega (arith, length-bits_in 8 flips)) s e

pub singles : Singles
unfolding fcs
singles flips l s t =
    let f = fcs flips in
    let x = single (bits flips) (bits_in_lem 8 flips) s in
    let y = single (bits_of 16 f) (bits_of_lem 16 f) t in
    let f_lt : f < 2 ^ 16 = (remainder flips).0 in
    let number : behind 0 (bits_of 16 f) ≡ f = number_of 16 f 0 ∙ omega arith in
    let same : leave x.place 1 ≡ leave y.place 1 = sym x.power ∙ sym number ∙ sym (own (bits_of 16 f) 0 (bits_of_lem 16 f) (omega arith)) ∙ y.power in
    let places = powers x.place y.place (omega (arith, x.inside, length-bits_in 8 flips)) (omega (arith, y.inside, length-bits_of 16 f)) same in
    sym (x.number ∙ ap (λ (k : ℕ). 2 ^ k) places ∙ sym y.number ∙ number)
