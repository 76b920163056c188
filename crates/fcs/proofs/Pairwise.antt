-- The division, two bytes at a time; the first of an odd number by itself.
-- Assumes nothing.
use mathlib.Core.Path.{◌≡◌, refl, sym, ap, ap₂, ◌∙◌}
use Prim.Native.Nat.{ℕ, zero, suc, ◌+◌, ◌*◌, ◌/◌, ◌%◌, ◌^◌, ◌≤◌, ◌<◌}
use mathlib.Core.List.{List, [], ◌∷◌, foldl}
use native.Mathlib.Omega.{arith}
use native.Mathlib.Nat.{add-zero}
use native.Mathlib.Numerals.{add-one}
use Rattle.std.specs.Simd.{first_chunks}
use Rattle.std.proofs.lemmas.List.{get_or-take, get_or-drop}
use lib.ListN.{length, get_or, take, drop, drop_of_length-le}
use lib.Seq.{drop-cons}
use Rattle.numbers.specs.Packing.{bits_of, bits_in}
use Rattle.fcs.specs.Fcs.{step, bits, fcs}
use Rattle.fcs.specs.Words.{by_halves}
use Rattle.fcs.proofs.Shortest.{short}
use Rattle.fcs.proofs.Words.{two_bytes}

-- dividing the front and then the rest divides the whole
front_then_rest : (k : ℕ) (s : List ℕ) (r : ℕ) → foldl step (foldl step r (bits (take k s))) (bits (drop k s)) ≡ foldl step r (bits s)
unfolding bits_of bits_in
front_then_rest zero s r = refl
front_then_rest (suc k) [] r = refl
front_then_rest (suc k) (b ∷ bs) r = front_then_rest k bs (foldl step r (bits (b ∷ [])))

pub front : (k : ℕ) (s : List ℕ) → foldl step (fcs (take k s)) (bits (drop k s)) ≡ fcs s
unfolding fcs
front k s = front_then_rest k s 0

-- two bytes more taken, as many fewer left
turn : (s : List ℕ) (i r q : ℕ) → i + 1 < length s → q ≡ foldl step r (bits (get_or s i 0 ∷ get_or s (i + 1) 0 ∷ []))
    → foldl step q (bits (drop (i + 2) s)) ≡ foldl step r (bits (drop i s))
unfolding bits_of bits_in
turn s i r q l e =
    let next : i + 2 ≡ suc (i + 1) = omega arith in
    ap₂ (λ (n j : ℕ). foldl step n (bits (drop j s))) e next
    ∙ sym (ap (λ (m : List ℕ). foldl step r (bits m)) (drop-cons s i 0 (omega arith) ∙ ap (λ (t : List ℕ). get_or s i 0 ∷ t) (ap (λ (n : ℕ). drop n s) (sym (add-one i)) ∙ drop-cons s (i + 1) 0 l)))

pub done : (s : List ℕ) (i r : ℕ) → length s ≤ i → foldl step r (bits (drop i s)) ≡ r
unfolding bits_of bits_in
done s i r h = ap (λ (m : List ℕ). foldl step r (bits m)) (drop_of_length-le s h)

pub no_byte : (s : List ℕ) → length s < 1 → 0 ≡ fcs s
unfolding fcs bits_in
no_byte [] h = refl
no_byte (b ∷ bs) h = absurd (omega arith)

pub one_byte : (s : List ℕ) → 1 ≤ length s → length s ≤ 1 → get_or s 0 0 < 256 → get_or s 0 0 ≡ fcs s
one_byte [] h l f = absurd (omega arith)
one_byte (b ∷ []) h l f = sym (short.1 b f)
one_byte (b ∷ c ∷ bs) h l f = absurd (omega arith)

-- a byte of a pair
pub of_pair : (s : List ℕ) (k i j : ℕ) → i < k → j < 2 → get_or (get_or (first_chunks 2 k s) i []) j 0 ≡ get_or s (2 * i + j) 0
of_pair s zero i j h l = absurd (omega arith)
of_pair s (suc k) zero j h l = get_or-take 2 s j 0 l ∙ ap (λ (n : ℕ). get_or s n 0) (omega arith)
of_pair s (suc k) (suc i) j h l = of_pair (drop 2 s) k i j (omega arith) l ∙ get_or-drop 2 s (2 * i + j) 0 ∙ ap (λ (n : ℕ). get_or s n 0) (omega arith)

-- the loop over the pairs of a message
module _ (m : List ℕ) where
  pub begun : {unpaired : List ℕ} {r : ℕ} → unpaired ≡ take (length m % 2) m → r ≡ fcs unpaired → foldl step r (bits (drop (length m % 2 + 0) m)) ≡ fcs m
  begun f e =
      ap₂ (λ (r k : ℕ). foldl step r (bits (drop k m))) (e ∙ ap fcs f) (add-zero (length m % 2)) ∙ front (length m % 2) m

  module _ {pairs : List (List ℕ)} (e : pairs ≡ first_chunks 2 (length m / 2) (drop (length m % 2) m)) (fits : (k : ℕ) → get_or m k 0 < 256) where
    of_message : (i j : ℕ) → i < length m / 2 → j < 2 → get_or (get_or pairs i []) j 0 ≡ get_or m (length m % 2 + 2 * i + j) 0
    of_message i j h l =
        ap (λ (p : List (List ℕ)). get_or (get_or p i []) j 0) e ∙ of_pair (drop (length m % 2) m) (length m / 2) i j h l
        ∙ get_or-drop (length m % 2) m (2 * i + j) 0 ∙ ap (λ (n : ℕ). get_or m n 0) (omega arith)

    pub one_pair : {r q : ℕ} (i : ℕ) → i < length m / 2 → r < 2 ^ 16 → q ≡ by_halves (by_halves r (get_or (get_or pairs i []) 0 0)) (get_or (get_or pairs i []) 1 0)
        → foldl step r (bits (drop (length m % 2 + 2 * i) m)) ≡ fcs m → foldl step q (bits (drop (length m % 2 + 2 * (i + 1)) m)) ≡ fcs m
    one_pair {r} {q} i h s w so_far =
        let at = length m % 2 + 2 * i in
        let a : get_or (get_or pairs i []) 0 0 ≡ get_or m at 0 = of_message i 0 h (omega arith) ∙ ap (λ (n : ℕ). get_or m n 0) (omega arith) in
        let b : get_or (get_or pairs i []) 1 0 ≡ get_or m (at + 1) 0 = of_message i 1 h (omega arith) in
        let both : q ≡ foldl step r (bits (get_or m at 0 ∷ get_or m (at + 1) 0 ∷ [])) =
        w ∙ ap₂ (λ (x y : ℕ). by_halves (by_halves r x) y) a b ∙ two_bytes r _ _ s (fits at) (fits (at + 1)) in
        ap (λ (n : ℕ). foldl step q (bits (drop n m))) (omega arith) ∙ turn m at r q (omega arith) both ∙ so_far
