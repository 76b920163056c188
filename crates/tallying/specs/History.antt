-- Calls that feed bytes, with the tally lent and without (RULES 'Tally').
-- Assumes nothing.
use Rattle.std.specs.Prelude.{ℕ, ◌+◌, Bool, true, false, cond, List, [], ◌∷◌, eqb, take, drop}
use Rattle.collecting.specs.declared.Collector.{Collector}
use Rattle.collecting.specs.declared.Collected.{Collected}
use Rattle.collecting.specs.Stream.{Reply, nothing, message, refused, reply, run}
use Rattle.tallying.specs.declared.Tally.{Tally}
use Rattle.tallying.specs.Tally.{tallied}

-- from whatever state, with whatever was in the lent message, over any bytes; whether the tally is lent
pub record Call : Type 0 where
  pub state : Collector
  pub message : List ℕ
  pub bytes : List ℕ
  pub lent : Bool

abbrev pub last_of : Call → Collected
last_of x = (run x.state x.message x.bytes).last

-- the tally after a call
unfoldable pub called : Tally → Call → Tally
called t x = cond x.lent (tallied t (last_of x).answer) t

-- the answers of the calls that lent it
unfoldable pub answers_lent : List Call → List Reply
answers_lent [] = []
answers_lent (x ∷ xs) = cond x.lent (reply (last_of x).answer (last_of x).message ∷ answers_lent xs) (answers_lent xs)

-- whether an answer is the number n
abbrev pub is_number : ℕ → Reply → Bool
is_number n nothing = false
is_number n (message m) = eqb n 0
is_number n (refused k at) = eqb n k

-- how many of the answers are
unfoldable pub given : ℕ → List Reply → ℕ
given n [] = 0
given n (r ∷ rs) = cond (is_number n r) 1 0 + given n rs

-- the calls that feed one stream, in whatever stretches, the tally lent to each: a call is on the first of the bytes that are left, as many
-- as are at hand, and the next goes on behind those that it took
pub data Stretches : Collector → List ℕ → List Call → Type 0 where
  stop : {c : Collector} → Stretches c [] []
  call : {c : Collector} {bs : List ℕ} {xs : List Call} (m : List ℕ) (k : ℕ)
      → Stretches (run c m (take k bs)).last.state (drop (run c m (take k bs)).count bs) xs
      → Stretches c bs (record { state = c; message = m; bytes = take k bs; lent = true } ∷ xs)
