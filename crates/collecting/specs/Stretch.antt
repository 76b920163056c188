-- Bytes that are taken several at once.
-- Assumes nothing.
use Rattle.std.specs.Prelude.{◌≡◌, ℕ, ◌+◌, ◌≤◌, cond, List, length, take, drop}
use Rattle.collecting.specs.declared.Control.{Control}
use Rattle.collecting.specs.declared.Collector.{Collector}
use Rattle.collecting.specs.Stream.{after, is_answered, Run, ran, run, unflagged}

-- neither over 438 bytes nor over 878 stuffed ones
pub record Within (c : Control) : Type 0 where
  pub count : c.count ≤ 438
  pub stuffed : c.stuffed ≤ 878

-- k of the bytes were taken, no flag among them, and the state went from c to d
pub record Passed (c : Collector) (bytes : List ℕ) (k : ℕ) (d : Collector) : Type 0 where
  pub before : k ≤ unflagged bytes
  pub state : d ≡ after c (take k bytes)

-- a run, behind i bytes that were answered nothing
abbrev pub run_behind : ℕ → Run → Run
run_behind i r = ran (i + r.count) r.last

-- r is the run of the bytes, or, where nothing is answered, its beginning: the bytes that are left lead on to it
pub record Leads (c : Collector) (m bytes : List ℕ) (r : Run) : Type 0 where
  pub most : r.count ≤ length bytes
  pub whole : cond (is_answered r.last.answer) r (run_behind r.count (run r.last.state r.last.message (drop r.count bytes))) ≡ run c m bytes
