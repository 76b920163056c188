-- Each count is the number of its answers, up to the hold.
-- Assumes nothing.
use mathlib.Core.Path.{◌≡◌, refl, ◌∙◌}
use mathlib.Core.Bool.{Bool, true, false, cond}
use Prim.Native.Nat.{ℕ, ◌+◌, ◌≤◌, ◌<◌, min}
use mathlib.Core.List.{List, [], ◌∷◌, foldl}
use native.Mathlib.Omega.{arith}
use lib.Dec.{eqb, ltb}
use lib.ListN.{length, get_or, set, length-set, get_or-replicate}
use lib.Seq.{get_or-set_same, get_or-set_other}
use borrow.Author.Tests.{lt-ltb, le-ltb, eqb-true, eqb-false, ltb-false}
use Rattle.collecting.specs.declared.Answer.{Answer}
use Rattle.collecting.specs.declared.Answer.TheVariants.{None, Accepted, Refused}
use Rattle.collecting.specs.Stream.{reply}
use Rattle.tallying.specs.declared.Tally.{Tally}
use Rattle.tallying.specs.Tally.{hold, zero, raised_at, tallied}
use Rattle.tallying.specs.History.{Call, last_of, called, answers_lent, is_number, given}
use Rattle.tallying.specs.Claims.{Counted}

module _ (t : Tally) (n : ℕ) where
  pub no_count : 6 ≤ n → t ≡ raised_at t n
  unfolding raised_at
  no_count h = rw (le-ltb n 6 h)

  pub goes_up : (k : ℕ) → k ≡ min (get_or t.counts n 0 + 1) hold → n < 6 → record { counts = set t.counts n k } ≡ raised_at t n
  unfolding raised_at
  goes_up k e l = rw (lt-ltb n 6 l, e)

-- six counts, none over the hold
record Sound (t : Tally) : Type 0 where
  six : length t.counts ≡ 6
  most : (n : ℕ) → n < 6 → get_or t.counts n 0 ≤ hold

-- a count of u after one of t, which is up by k to the hold
abbrev Up : Tally → Tally → ℕ → ℕ → Type 0
Up t u n k = get_or u.counts n 0 ≡ min (get_or t.counts n 0 + k) hold

after_one : (t : Tally) (m n : ℕ) → Sound t → n < 6 → Up t (raised_at t m) n (cond (eqb n m) 1 0)
unfolding raised_at
after_one t m n s l = go (ltb m 6) (eqb n m) refl refl
  where
    go : (a e : Bool) → ltb m 6 ≡ a → eqb n m ≡ e → Up t (cond a (record { counts = set t.counts m (min (get_or t.counts m 0 + 1) hold) }) t) n (cond e 1 0)
    go true true p r =
        let same : n ≡ m = eqb-true n m r in
        rw same (get_or-set_same t.counts m (min (get_or t.counts m 0 + 1) hold) 0 (omega (arith, s.six)))
    go true false p r = omega (arith, get_or-set_other t.counts m n (min (get_or t.counts m 0 + 1) hold) 0 (eqb-false n m r), s.most n l)
    go false true p r = absurd (omega (arith, eqb-true n m r, ltb-false m 6 p))
    go false false p r = omega (arith, s.most n l)

after_answer : (t : Tally) (a : Answer) (m : List ℕ) (n : ℕ) → Sound t → n < 6 → Up t (tallied t a) n (cond (is_number n (reply a m)) 1 0)
unfolding tallied reply
after_answer t None m n s l = omega (arith, s.most n l)
after_answer t (Accepted k) m n s l = after_one t 0 n s l
after_answer t (Refused k at) m n s l = after_one t k n s l

raised_six : (t : Tally) (m : ℕ) → length (raised_at t m).counts ≡ length t.counts
unfolding raised_at
raised_six t m = go (ltb m 6)
  where
    go : (a : Bool) → length (cond a (record { counts = set t.counts m (min (get_or t.counts m 0 + 1) hold) }) t).counts ≡ length t.counts
    go true = length-set t.counts m _
    go false = refl

tallied_six : (t : Tally) (a : Answer) → length (tallied t a).counts ≡ length t.counts
unfolding tallied
tallied_six t None = refl
tallied_six t (Accepted k) = raised_six t 0
tallied_six t (Refused m at) = raised_six t m

sound : (t : Tally) (a : Answer) → Sound t → Sound (tallied t a)
sound t a s = record { six = tallied_six t a ∙ s.six; most = λ n l. omega (arith, after_answer t a [] n s l) }

counts : (xs : List Call) (t : Tally) (n : ℕ) → Sound t → n < 6 → Up t (foldl called t xs) n (given n (answers_lent xs))
unfolding called answers_lent given
counts [] t n s l = omega (arith, s.most n l)
counts (x ∷ xs) t n s l = go x.lent (λ u. counts xs u n)
  where
    go : (lent : Bool) → ((u : Tally) → Sound u → n < 6 → Up u (foldl called u xs) n (given n (answers_lent xs)))
        → Up t (foldl called (cond lent (tallied t (last_of x).answer) t) xs) n (given n (cond lent (reply (last_of x).answer (last_of x).message ∷ answers_lent xs) (answers_lent xs)))
    go true rest =
        let a = (last_of x).answer in
        omega (arith, rest (tallied t a) (sound t a s) l, after_answer t a (last_of x).message n s l)
    go false rest = rest t s l

pub counted : Counted
counted xs n l = omega (arith, counts xs zero n (record { six = refl; most = λ n l. omega (arith, get_or-replicate {A = ℕ} 6 n 0 0 l) }) l, get_or-replicate {A = ℕ} 6 n 0 0 l)
