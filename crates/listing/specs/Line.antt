-- Numbers and lines as text (RULES 'Listing').
-- Assumes nothing.
use Rattle.std.specs.Prelude.{ℕ, zero, suc, ◌+◌, ◌/◌, ◌%◌, Bool, true, false, List, [], ◌∷◌, ◌++◌, ltb, ◌<◌, Option, Some, None}

-- n in decimal, in at most k digits. Whether one digit is enough is an argument, so that no more is computed than is needed
unfoldable pub decimal_by : ℕ → ℕ → Bool → List ℕ
decimal_by zero n one = []
decimal_by (suc k) n true = (48 + n) ∷ []
decimal_by (suc k) n false = decimal_by k (n / 10) (ltb (n / 10) 10) ++ ((48 + n % 10) ∷ [])

-- n in decimal, which has at most n + 1 digits: ASCII, the highest digit first, no zero in front
unfoldable pub decimal : ℕ → List ℕ
decimal n = decimal_by (suc n) n (ltb n 10)

pub data Field : Type 0 where
  digits : ℕ → Field
  dash : Field

unfoldable pub field : Field → List ℕ
field (digits n) = decimal n
field dash = 45 ∷ []

-- fields one space apart, and a line feed
unfoldable pub line : List Field → List ℕ
line [] = 10 ∷ []
line (f ∷ []) = field f ++ (10 ∷ [])
line (f ∷ g ∷ fs) = field f ++ (32 ∷ line (g ∷ fs))

-- a number, or a dash where there is none
abbrev pub shown : Option ℕ → Field
shown (Some n) = digits n
shown None = dash

-- a number, if there is one, has at most ten digits
abbrev pub Short : Option ℕ → Type 0
Short (Some n) = n < 10000000000
Short None = Unit {0}
