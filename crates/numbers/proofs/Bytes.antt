-- Laws of lists of bytes.
-- Assumes nothing.
use mathlib.Core.Path.{◌≡◌, refl, sym, ap, ◌∙◌}
use Prim.Native.Nat.{ℕ, zero, suc, pred, ◌+◌, ◌≤◌, ◌<◌}
use mathlib.Core.List.{List, [], ◌∷◌}
use native.Mathlib.Omega.{arith}
use native.Mathlib.Numerals.{add-one}
use lib.ListN.{length, get_or, drop}
use lib.Seq.{drop-cons}
use Rattle.numbers.specs.Bytes.{AreBytes}

pub byte_at : (bs : List ℕ) (i : ℕ) → AreBytes bs → get_or bs i 0 < 256
unfolding AreBytes
byte_at [] i h = omega arith
byte_at (b ∷ bs) zero h = h.0
byte_at (b ∷ bs) (suc i) h = byte_at bs i h.1

-- f 0, f 1 and so on, n of them
abbrev pub up_to : ℕ → (ℕ → ℕ) → List ℕ
up_to zero f = []
up_to (suc n) f = f 0 ∷ up_to n (λ i. f (suc i))

-- a list of known length is its elements, one by one
pub spread : (n : ℕ) (bs : List ℕ) → length bs ≡ n → bs ≡ up_to n (λ i. get_or bs i 0)
spread zero [] e = refl
spread zero (b ∷ bs) e = cc
spread (suc n) [] e = cc
spread (suc n) (b ∷ bs) e = ap (λ (l : List ℕ). b ∷ l) (spread n bs (ap pred e))

-- the next three of a list
pub drop-three : (xs : List ℕ) (i : ℕ) → i + 3 ≤ length xs → drop i xs ≡ get_or xs i 0 ∷ get_or xs (i + 1) 0 ∷ get_or xs (i + 2) 0 ∷ drop (i + 3) xs
drop-three xs i h =
    let two : suc (i + 1) ≡ i + 2 = omega arith in
    let three : suc (i + 2) ≡ i + 3 = omega arith in
    drop-cons xs i 0 (omega arith)
    ∙ ap (λ (l : List ℕ). get_or xs i 0 ∷ l)
    (ap (λ (n : ℕ). drop n xs) (sym (add-one i))
    ∙ drop-cons xs (i + 1) 0 (omega arith)
    ∙ ap (λ (l : List ℕ). get_or xs (i + 1) 0 ∷ l)
    (ap (λ (n : ℕ). drop n xs) two ∙ drop-cons xs (i + 2) 0 (omega arith) ∙ ap (λ (n : ℕ). get_or xs (i + 2) 0 ∷ drop n xs) three))
