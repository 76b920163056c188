-- The turns of `feed`.
-- Assumes nothing.
use mathlib.Core.Path.{◌≡◌, refl, sym, ap, ap₂, ◌∙◌, subst}
use mathlib.Core.Bool.{Bool, true, false, cond}
use Prim.Native.Nat.{ℕ, suc, ◌+◌, ◌-◌, ◌≤◌, ◌<◌}
use mathlib.Core.List.{List, [], ◌∷◌, ◌++◌}
use native.Mathlib.Omega.{arith}
use lib.ListN.{length, take, drop, get_or, drop_of_length-le, take-append-drop, length-drop}
use lib.Seq.{drop-cons, drop-drop, length-take-le}
use borrow.Author.Tests.{ne_eqb}
use Rattle.framing.specs.Stuffing.{flag, Flagless}
use Rattle.collecting.specs.declared.Answer.{Answer}
use Rattle.collecting.specs.declared.Answer.TheVariants.{None, Accepted, Refused}
use Rattle.collecting.specs.declared.Collector.{Collector}
use Rattle.collecting.specs.declared.Collected.{Collected}
use Rattle.collecting.specs.Step.{next, answer_to, shown, stepped}
use Rattle.collecting.specs.Stream.{after, is_answered, Run, ran, run, unflagged}
use Rattle.collecting.specs.Stretch.{run_behind, Leads}
use Rattle.collecting.proofs.Filling.{unflagged_most, unflagged_flagless, rest}

counted : {i j : ℕ} {s : Collected} → i ≡ j → ran i s ≡ ran j s
counted {s = s} e = ap {B = Run} (λ (n : ℕ). ran n s) e

-- nothing was answered yet
abbrev pub unanswered : ℕ → Collector → List ℕ → Run
unanswered k c m = ran k (record { state = c; answer = None; message = m })

-- bytes without a flag are answered nothing
flagless_run : (xs ys : List ℕ) (c : Collector) (m : List ℕ) → Flagless xs → run_behind (length xs) (run (after c xs) m ys) ≡ run c m (xs ++ ys)
unfolding run after answer_to Flagless
flagless_run [] ys c m f = counted (omega arith)
flagless_run (x ∷ xs) ys c m f = counted (omega arith) ∙ ap {B = Run} (λ (r : Run). ran (r.count + 1) r.last) (flagless_run xs ys (next c x) m f.1) ∙ simp (ne_eqb x flag f.0)

pub leads_none : {c : Collector} {m bs : List ℕ} → Leads c m bs (unanswered 0 c m)
leads_none = record { most = omega arith; whole = counted (omega arith) }

-- the bytes before the first flag
pub leads_filled : {c d : Collector} (m : List ℕ) {bs : List ℕ} {k : ℕ} → k ≡ unflagged bs → d ≡ after c (take k bs) → Leads c m bs (unanswered k d m)
leads_filled {c} {d} m {bs} {k} e f =
    let most : k ≤ length bs = omega (arith, e, unflagged_most bs) in
    let before : Flagless (take k bs) = subst (λ (n : ℕ). Flagless (take n bs)) (sym e) (unflagged_flagless bs) in
    record {
      most = most;
      whole = ap₂ {C = Run} (λ (n : ℕ) (d : Collector). run_behind n (run d m (drop k bs))) (sym (length-take-le k bs most)) f
          ∙ flagless_run (take k bs) (drop k bs) c m before ∙ ap (run c m) (take-append-drop k bs);
    }

leads_byte : (c : Collector) (m : List ℕ) (b : ℕ) (bs : List ℕ) → Leads c m (b ∷ bs) (ran 1 (stepped c m b))
unfolding run stepped shown
leads_byte c m b bs = record { most = omega arith; whole = go (answer_to c b) }
  where
    s : Answer → Collected
    s a = record { state = next c b; answer = a; message = shown a c.room m }

    go : (a : Answer) → cond (is_answered a) (ran 1 (s a)) (run_behind 1 (run (next c b) (shown a c.room m) bs))
        ≡ cond (is_answered a) (ran 1 (s a)) (ran ((run (next c b) m bs).count + 1) (run (next c b) m bs).last)
    go None = counted (omega arith)
    go (Accepted k) = refl
    go (Refused n at) = refl

module _ {c d : Collector} {m m' bs : List ℕ} {i : ℕ} where
  leads_more : {r : Run} → Leads c m bs (unanswered i d m') → Leads d m' (drop i bs) r → Leads c m bs (run_behind i r)
  leads_more {r} p q = record { most = omega (arith, p.most, q.most, length-drop i bs); whole = go (is_answered r.last.answer) ∙ ap (run_behind i) q.whole ∙ p.whole }
    where
      go : (t : Bool) → cond t (run_behind i r) (run_behind (i + r.count) (run r.last.state r.last.message (drop (i + r.count) bs)))
          ≡ run_behind i (cond t r (run_behind r.count (run r.last.state r.last.message (drop r.count (drop i bs)))))
      go true = refl
      go false = ap {B = Run} (λ (t : List ℕ). run_behind (i + r.count) (run r.last.state r.last.message t)) (sym (drop-drop r.count i bs)) ∙ counted (omega arith)

  pub leads_one : {s : Collected} → Leads c m bs (unanswered i d m') → i < length bs → s ≡ stepped d m' (get_or bs i 0) → Leads c m bs (ran (i + 1) s)
  leads_one {s} p h e =
      leads_more p
      (subst (λ (t : List ℕ). Leads d m' t (ran 1 s)) (sym (drop-cons bs i 0 h))
      (subst (λ (s : Collected). Leads d m' (get_or bs i 0 ∷ drop (suc i) bs) (ran 1 s)) (sym e) (leads_byte d m' (get_or bs i 0) (drop (suc i) bs))))

  pub leads_part : {r : Run} → Leads c m bs (unanswered i d m') → Leads d m' (take (length bs - i) (drop i bs)) r → Leads c m bs (run_behind i r)
  leads_part {r} p q = leads_more p (subst (λ (t : List ℕ). Leads d m' t r) (rest bs i) q)

  pub leads_end : Leads c m bs (unanswered i d m') → length bs ≤ i → unanswered i d m' ≡ run c m bs
  unfolding run
  leads_end p h = counted (omega arith) ∙ ap {B = Run} (λ (t : List ℕ). run_behind i (run d m' t)) (sym (drop_of_length-le bs h)) ∙ p.whole

module _ {c : Collector} {m bs : List ℕ} {r : Run} (p : Leads c m bs r) where
  pub leads_answered : is_answered r.last.answer ≡ true → r ≡ run c m bs
  leads_answered e = rw e at p.whole

  pub leads_on : is_answered r.last.answer ≡ false → Leads c m bs (unanswered r.count r.last.state r.last.message)
  leads_on e = record { most = p.most; whole = rw e at p.whole }
