-- What is proved of how a packet capture is told (RULES 'Notes').
-- Assumes nothing.
use Rattle.std.specs.Prelude.{◌≡◌, List, [], ◌∷◌, ◌++◌, ℕ, ◌<◌, length}
use Rattle.numbers.specs.Bytes.{AreBytes}
use Rattle.captures.specs.Captures.{start, least, begun, four}

pub record Told : Type 0 where
  -- in whatever pieces the bytes come
  pub pieces : (n : ℕ) (xs ys : List ℕ) → begun (begun n xs) ys ≡ begun n (xs ++ ys)
  -- four bytes or more have the number of the first four
  pub first : (a b c d : ℕ) (bs : List ℕ) → AreBytes (a ∷ b ∷ c ∷ d ∷ []) → begun start (a ∷ b ∷ c ∷ d ∷ bs) ≡ four a b c d
  -- which no other four have
  pub apart : (a b c d e f g h : ℕ) → AreBytes (a ∷ b ∷ c ∷ d ∷ []) → AreBytes (e ∷ f ∷ g ∷ h ∷ []) → four a b c d ≡ four e f g h → (a ≡ e) × (b ≡ f) × (c ≡ g) × (d ≡ h)
  -- and fewer have a smaller one than any four
  pub fewer : (bs : List ℕ) → AreBytes bs → length bs < 4 → begun start bs < least
