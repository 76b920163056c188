-- An input in stretches: what a program that reads, calls and writes does in all; and the end of the input.
-- Assumes nothing.
use Rattle.std.specs.Prelude.{ℕ, suc, ◌≤◌, cond, List, [], ◌∷◌, ◌++◌, eqb, take, drop}
use Rattle.framing.specs.Stuffing.{flag}
use Rattle.listing.specs.declared.Processed.{Processed}
use Rattle.listing.specs.Listing.{limit, State, state, settled, Processes}

-- from a state, over the bytes that are left: what is written, and the last state. Each call of `process` is on the first of them, as
-- many as are at hand, with whatever room for their text, and the text that it leaves there is written
pub data Calls : State → List ℕ → List ℕ → State → Type 0 where
  stop : {s : State} → Calls s [] [] s
  full : {s : State} {bs : List ℕ} → limit ≤ s.lister.taken → Calls s bs [] s
  call : {s s' : State} {bs out left room rest : List ℕ} {r : Processed} (k : ℕ) → Processes (settled s) (take k bs) out r room left
      → Calls (state r.lister room) (drop r.taken bs) rest s' → Calls s bs (take r.written left ++ rest) s'

-- the bytes after the last flag, where n are before bs and after a flag
unfoldable pub trail_by : ℕ → List ℕ → ℕ
trail_by n [] = n
trail_by n (b ∷ bs) = cond (eqb b flag) (trail_by 0 bs) (trail_by (suc n) bs)

-- the bytes after the last flag: none where there is no flag
unfoldable pub trail : List ℕ → ℕ
trail [] = 0
trail (b ∷ bs) = cond (eqb b flag) (trail_by 0 bs) (trail bs)
