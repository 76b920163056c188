-- Flips within 16 bits in a row, as a serial line sends them, never have the check sequence 0.
-- Assumes nothing.
use mathlib.Core.Path.{◌≡◌, refl, sym, ap, ap₂, ◌∙◌}
use mathlib.Core.Bool.{Bool, true, false, cond}
use Prim.Native.Nat.{ℕ, zero, suc, ◌+◌, ◌-◌, ◌*◌, ◌%◌, ◌^◌, ◌≤◌, ◌<◌}
use mathlib.Core.List.{List, [], ◌∷◌, foldl}
use native.Mathlib.Omega.{arith}
use native.Mathlib.Nat.{mul-add-mod_self_right, zero-mod}
use lib.Bits.{xor_shifted}
use lib.Dec.{eqb, ltb, leb}
use lib.ListN.{length, replicate}
use lib.Pow.{pow-add, pow_mono, shl_lt}
use borrow.Author.Tests.{eqb-true, eqb-false, ltb-true, ltb-false, leb-true}
use Rattle.numbers.specs.Bits.{◌⊕◌, bit}
use Rattle.numbers.specs.Packing.{bits_of, bits_in}
use Rattle.numbers.proofs.Every.{every, at}
use Rattle.numbers.proofs.Xor.{⊕_zero, ⊕_same}
use Rattle.fcs.specs.Fcs.{step, bits, fcs}
use Rattle.fcs.specs.Flips.{serial_bits}
use Rattle.fcs.specs.Claims.{SerialBursts}
use Rattle.fcs.proofs.Division.{own}
use Rattle.fcs.proofs.Zeros.{leave, leave_additive, divided, zero_bits, leave_zero, shifted}
use Rattle.fcs.proofs.Rows.{split_zeros}
use Rattle.fcs.proofs.Quotient.{remainder}
use Rattle.fcs.proofs.Shortest.{one, two}
use Rattle.fcs.proofs.Sums.{low}
use Rattle.fcs.proofs.Upward.{upward_of, byte_first, serial_row, pass_over}

-- a first byte of 0 changes nothing
zero_first : (b : ℕ) (bs : List ℕ) → b % 256 ≡ 0 → fcs (b ∷ bs) ≡ fcs bs
unfolding fcs bits_of bits_in
zero_first b bs e = ap (λ (n : ℕ). foldl step n (bits bs)) (one b ∙ e)

behind_three : (b c d : ℕ) (es : List ℕ) → foldl step (fcs (b ∷ c ∷ d ∷ [])) (bits es) ≡ fcs (b ∷ c ∷ d ∷ es)
unfolding fcs bits_of bits_in
behind_three b c d es = refl

no_bytes : (m : List ℕ) → upward_of m ≡ 0 → fcs m ≡ 0
no_bytes [] e = unfold fcs bits_in in refl
no_bytes (b ∷ bs) e = zero_first b bs (omega (arith, byte_first b bs)) ∙ no_bytes bs (omega (arith, byte_first b bs))

-- what a byte that leaves above comes back as
back : ℕ → ℕ
back b = leave 8 (b * 256)

lifted : (c : ℕ) → c < 256 → leave 8 c ≡ c * 256
unfolding leave
lifted c h = own (replicate 8 0) c (zero_bits 8) (omega (arith, shifted 8 c)) ∙ shifted 8 c

three : (b c d : ℕ) → fcs (b ∷ c ∷ d ∷ []) ≡ back (b % 256) ⊕ c % 256 * 256 ⊕ d % 256
unfolding fcs bits_of bits_in back
three b c d =
    let pair : 256 * (b % 256) + c % 256 ≡ b % 256 * 256 ⊕ c % 256 = unfold ◌⊕◌ in (omega (arith, xor_shifted (b % 256) 8 (c % 256) (omega arith))) in
    divided (d ∷ []) (foldl step 0 (bits (b ∷ c ∷ [])))
    ∙ ap₂ (λ (x y : ℕ). leave 8 x ⊕ y) (two b c ∙ pair) (one d)
    ∙ ap (λ (n : ℕ). n ⊕ d % 256) ((leave_additive 8).adds (b % 256 * 256) (c % 256) ∙ ap (λ (n : ℕ). back (b % 256) ⊕ n) (lifted (c % 256) (omega arith)))

-- a byte of which the low k bits are 0 comes back with a bit above those in the third byte
above : ℕ → ℕ → Bool
above b k = leb (2 ^ k) (cond (eqb (b % 2 ^ k) 0) (back b % 256) 256)

all_above : every (λ b. every (above (suc b)) 8) 255 ≡ true
unfolding every above back leave step bit ◌⊕◌
all_above = refl

comes_above : (b k : ℕ) → (b ≡ 0 → ⊥) → b < 256 → k < 8 → b % 2 ^ k ≡ 0 → 2 ^ k ≤ back b % 256
unfolding above
comes_above zero k n hb hk e = absurd (n refl)
comes_above (suc b) k n hb hk e =
    leb-true (2 ^ k) (back (suc b) % 256) (rw e at (at (above (suc b)) 8 (at (λ b. every (above (suc b)) 8) 255 all_above b (omega arith)) k hk))

back_zero : back 0 ≡ 0
unfolding back leave step bit ◌⊕◌
back_zero = refl

-- three bytes within 16 bits from bit k on
module _ (b c d k u : ℕ) (hb : b < 256) (hc : c < 256) (hd : d < 256) (hk : k < 8) (hu : u < 2 ^ 16) (z : b + c * 256 + d * 65536 ≡ u * 2 ^ k) where
  first : b % 2 ^ k ≡ 0
  first =
      let q = c + d * 256 in
      let n : q * 2 ^ (8 - k) * 2 ^ k + b ≡ u * 2 ^ k + 0 = ap (λ (m : ℕ). m + b) (sym (split_zeros q 8 k (omega arith))) ∙ omega (arith, z) in
      sym (mul-add-mod_self_right (q * 2 ^ (8 - k)) (2 ^ k) b) ∙ ap (λ (m : ℕ). m % 2 ^ k) n ∙ mul-add-mod_self_right u (2 ^ k) 0 ∙ zero-mod (2 ^ k)

  third : d < 2 ^ k
  third = omega (arith, z, shl_lt 16 k hu, pow-add 2 16 k)

  byte_back : back b ⊕ c * 256 ≡ d → back b % 256 ≡ d
  byte_back e =
      let none : 0 ≡ c * 256 % 256 = omega arith in
      sym (⊕_zero (back b % 256)) ∙ ap (λ (n : ℕ). back b % 256 ⊕ n) none ∙ sym ((low 8).adds (back b) (c * 256)) ∙ ap (λ (n : ℕ). n % 256) e ∙ omega arith

  no_first : back b ⊕ c * 256 ≡ d → b ≡ 0
  no_first e = go (eqb b 0) refl
    where
      go : (t : Bool) → eqb b 0 ≡ t → b ≡ 0
      go true f = eqb-true b 0 f
      go false f = absurd (omega (arith, third, byte_back e, comes_above b k (eqb-false b 0 f) hb hk first))

  none : back b ⊕ c * 256 ⊕ d ≡ 0 → b + c * 256 + d * 65536 ≡ 0
  unfolding ◌⊕◌
  none e =
      let s : back b ⊕ c * 256 ≡ d = ⊕_same _ _ e in
      let b0 : b ≡ 0 = no_first s in
      let back0 : back b ≡ 0 = ap back b0 ∙ back_zero in
      let d0 : 0 ≡ d = ap (λ (n : ℕ). n % 256) (sym back0) ∙ byte_back s in
      let c0 : c * 256 ≡ d = ap (λ (n : ℕ). n ⊕ c * 256) (sym back0) ∙ s in
      omega arith

three_first : (b c d : ℕ) (es : List ℕ) → upward_of (b ∷ c ∷ d ∷ es) ≡ b % 256 + c % 256 * 256 + d % 256 * 65536 + upward_of es * 16777216
three_first b c d es = omega (arith, byte_first b (c ∷ d ∷ es), byte_first c (d ∷ es), byte_first d es)

-- within 16 bits from the first byte on, so none behind the third
early : (b : ℕ) (bs : List ℕ) (u k : ℕ) → k < 8 → u < 2 ^ 16 → upward_of (b ∷ bs) ≡ u * 2 ^ k → fcs (b ∷ bs) ≡ 0 → upward_of (b ∷ bs) ≡ 0
unfolding upward_of serial_bits
early b [] u k hk hu s e = omega (arith, byte_first b [], sym (one b) ∙ e)
early b (c ∷ []) u k hk hu s e = omega (arith, byte_first b (c ∷ []), byte_first c [], sym (two b c) ∙ e)
early b (c ∷ d ∷ es) u k hk hu s e =
    let r = fcs (b ∷ c ∷ d ∷ []) in
    let most : 16 + k ≤ 24 = omega arith in
    let v = three_first b c d es in
    let z : upward_of es ≡ 0 = omega (arith, shl_lt 16 k hu, pow_mono most) in
    let r0 : r ≡ 0 = leave_zero (length es * 8) r (remainder (b ∷ c ∷ d ∷ [])).0 (sym (⊕_zero _) ∙ ap (λ (n : ℕ). leave (length es * 8) r ⊕ n) (sym (no_bytes es z)) ∙ sym (divided es r) ∙ behind_three b c d es ∙ e) in
    omega (arith, none (b % 256) (c % 256) (d % 256) k u (omega arith) (omega arith) (omega arith) hk hu (omega arith) (sym (three b c d) ∙ r0))

-- a first byte of no flips is passed over
by_first : (b : ℕ) (bs : List ℕ) (u k : ℕ) → u < 2 ^ 16 → upward_of (b ∷ bs) ≡ u * 2 ^ k → fcs (b ∷ bs) ≡ 0
    → ((j : ℕ) → upward_of bs ≡ u * 2 ^ j → fcs bs ≡ 0 → upward_of bs ≡ 0) → upward_of (b ∷ bs) ≡ 0
by_first b bs u k h s e rest = go (ltb k 8) refl
  where
    go : (t : Bool) → ltb k 8 ≡ t → upward_of (b ∷ bs) ≡ 0
    go true f = early b bs u k (ltb-true k 8 f) h s e
    go false f =
        let p = pass_over b bs u k (ltb-false k 8 f) s in
        omega (arith, byte_first b bs, p.0, rest (k - 8) p.1 (sym (zero_first b bs p.0) ∙ e))

quiet : (m : List ℕ) (u k : ℕ) → u < 2 ^ 16 → upward_of m ≡ u * 2 ^ k → fcs m ≡ 0 → upward_of m ≡ 0
unfolding upward_of serial_bits
quiet [] u k h s e = refl
quiet (b ∷ bs) u k h s e = by_first b bs u k h s e (λ j. quiet bs u j h)

pub serial_bursts : SerialBursts
serial_bursts flips i all some e =
    let r = serial_row flips i all in
    omega (arith, r.0, quiet flips r.1.part r.1.places r.1.small r.1.is e)
