-- A stream in stretches gives the answers of the stream.
-- Assumes nothing.
use mathlib.Core.Path.{◌≡◌, refl, sym, ap, ap₂, ◌∙◌}
use mathlib.Core.Bool.{Bool, true, false, cond}
use Prim.Native.Nat.{ℕ, zero, suc, ◌+◌, min}
use mathlib.Core.List.{List, [], ◌∷◌, ◌++◌}
use native.Mathlib.Omega.{arith}
use lib.ListN.{length, take, drop, replicate, take-append-drop, length-take}
use lib.Seq.{take-take, take_all}
use Rattle.collecting.specs.declared.Answer.{Answer}
use Rattle.collecting.specs.declared.Collector.{Collector}
use Rattle.collecting.specs.Stream.{Reply, nothing, reply, after, answers, is_answered, run}
use Rattle.collecting.proofs.Closing.{pieces}
use Rattle.collecting.proofs.Stepwise.{none, feed_is_steps}
use Rattle.tallying.specs.Tally.{hold}
use Rattle.tallying.specs.History.{Call, answers_lent, is_number, given, Stretches, stop, call}
use Rattle.tallying.specs.Claims.{StreamCounted}
use Rattle.tallying.proofs.Counting.{counted}

module _ (n : ℕ) where
  given-append : (rs ss : List Reply) → given n (rs ++ ss) ≡ given n rs + given n ss
  unfolding given
  given-append [] ss = omega arith
  given-append (r ∷ rs) ss = omega (arith, given-append rs ss)

  given_silence : (k : ℕ) → given n (replicate k nothing) ≡ 0
  unfolding given
  given_silence zero = refl
  given_silence (suc k) = omega (arith, given_silence k)

  -- the bytes that a call takes are answered as it is
  given_run : (c : Collector) (m bs : List ℕ) → given n (answers c (take (run c m bs).count bs)) ≡ cond (is_number n (reply (run c m bs).last.answer (run c m bs).last.message)) 1 0
  given_run c m bs = go (is_answered (run c m bs).last.answer) refl
    where
      go : (t : Bool) → is_answered (run c m bs).last.answer ≡ t
          → given n (answers c (take (run c m bs).count bs)) ≡ cond (is_number n (reply (run c m bs).last.answer (run c m bs).last.message)) 1 0
      go true e =
          let s = (feed_is_steps c m bs).spoken e in
          let r = reply (run c m bs).last.answer (run c m bs).last.message in
          ap (λ (k : ℕ). given n (answers c (take k bs))) s.1 ∙ ap (given n) s.2
          ∙ unfold given in omega (arith, given-append (replicate s.0 nothing) (r ∷ []), given_silence s.0)
      go false e =
          let s = (feed_is_steps c m bs).quiet e in
          ap (λ (t : List ℕ). given n (answers c t)) (take_all (run c m bs).count bs (omega (arith, s.0)))
          ∙ ap (given n) s.1 ∙ given_silence (length bs)
          ∙ unfold reply in ap (λ (a : Answer). cond (is_number n (reply a (run c m bs).last.message)) 1 0) (sym (none (run c m bs).last.answer e))

  -- a call, and then those on the bytes behind
  given_call : (c : Collector) (bs m : List ℕ) (k g : ℕ) → g ≡ given n (answers (run c m (take k bs)).last.state (drop (run c m (take k bs)).count bs))
      → cond (is_number n (reply (run c m (take k bs)).last.answer (run c m (take k bs)).last.message)) 1 0 + g ≡ given n (answers c bs)
  given_call c bs m k g e =
      let r = run c m (take k bs) in
      let s = feed_is_steps c m (take k bs) in
      let first : take r.count (take k bs) ≡ take r.count bs = take-take r.count k bs (omega (arith, s.most, length-take k bs)) in
      let state : r.last.state ≡ after c (take r.count bs) = s.state ∙ ap (after c) first in
      ap₂ ◌+◌ (sym (given_run c m (take k bs)) ∙ ap (λ (t : List ℕ). given n (answers c t)) first) (e ∙ ap (λ (d : Collector). given n (answers d (drop r.count bs))) state)
      ∙ sym (given-append (answers c (take r.count bs)) (answers (after c (take r.count bs)) (drop r.count bs)))
      ∙ ap (given n) (sym (pieces c (take r.count bs) (drop r.count bs)) ∙ ap (answers c) (take-append-drop r.count bs))

  given_stream : {c : Collector} {bs : List ℕ} {xs : List Call} → Stretches c bs xs → given n (answers_lent xs) ≡ given n (answers c bs)
  unfolding given answers_lent answers
  given_stream stop = refl
  given_stream (call {c} {bs} {xs} m k s) = given_call c bs m k (given n (answers_lent xs)) (given_stream s)

pub stream_counted : StreamCounted
stream_counted c bs xs s n l = counted xs n l ∙ ap (λ (k : ℕ). min k hold) (given_stream n s)
