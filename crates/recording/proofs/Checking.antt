-- The cases of `check`, and what unstuffing and checking a part give.
-- Assumes nothing.
use mathlib.Core.Path.{◌≡◌, refl, sym, ap, ◌∙◌}
use mathlib.Core.Bool.{Bool, true, false, cond}
use Prim.Native.Nat.{ℕ, ◌+◌, ◌-◌, ◌*◌, ◌≤◌, ◌<◌}
use mathlib.Core.List.{List, []}
use native.Mathlib.Omega.{arith}
use lib.Dec.{eqb, ltb}
use lib.ListN.{length, take, drop, get_or, length-append, length-take, length-drop}
use lib.Seq.{take-take, take_all, take_at, length-take-le}
use borrow.Author.Tests.{eq-eqb, ne_eqb, lt-ltb, le-ltb, ltb-false}
use Rattle.std.specs.Prelude.{Result, Ok, Err, MatchResult}
use Rattle.numbers.specs.Lent.{written}
use Rattle.fcs.specs.Fcs.{fcs}
use Rattle.framing.specs.Stuffing.{stuff, unstuff, Unstuffed}
use Rattle.collecting.specs.declared.Answer.{Answer}
use Rattle.collecting.specs.declared.Answer.TheVariants.{None, Accepted, Refused}
use Rattle.collecting.specs.Stream.{Reply, nothing, message, refused, reply, unflagged}
use Rattle.collecting.specs.Between.{whole, verdict, reply_between}
use Rattle.collecting.proofs.Filling.{unflagged_most}
use Rattle.recording.proofs.Judging.{verdict_judged}
use Rattle.recording.specs.declared.Broken.{Broken}
use Rattle.recording.specs.declared.Fault.{Fault}
use Rattle.recording.specs.declared.Fault.TheVariants.{BadEscape, CutEscape, TooLong}
use Rattle.recording.specs.Steps.{fault_number, first_fault, part_bytes, Unstuffs, checked_part, IsReply, AnswersPart, reply_to_part, judged}

-- what a part's bytes are answered, all `at` stuffed ones taken
module _ (bs : List ℕ) (at : ℕ) where
  pub empty : length bs ≡ 0 → IsReply None bs (whole at bs)
  unfolding reply whole
  empty e = record { same = rw (eq-eqb (length bs) 0 e) refl; within = omega arith }

  pub short : (length bs ≡ 0 → ⊥) → length bs < 3 → IsReply (Refused 4 at) bs (whole at bs)
  unfolding reply whole
  short z h = record { same = rw (ne_eqb (length bs) 0 z, lt-ltb (length bs) 3 h) refl; within = omega arith }

  module _ (h : 3 ≤ length bs) (s w : ℕ) (hs : s ≡ fcs (take (length bs - 2) bs)) (hw : w ≡ 256 * get_or bs (length bs - 2 + 1) 0 + get_or bs (length bs - 2) 0) where
    compared : whole at bs ≡ cond (eqb s w) (message (take (length bs - 2) bs)) (refused 5 at)
    unfolding whole
    compared =
        let last : length bs - 1 ≡ length bs - 2 + 1 = omega arith in
        rw (ne_eqb (length bs) 0 (omega arith), le-ltb (length bs) 3 h, last, sym hs, sym hw) refl

    pub agrees : s ≡ w → IsReply (Accepted (length bs - 2)) bs (whole at bs)
    unfolding reply
    agrees e = record { same = rw (compared, eq-eqb s w e) refl; within = omega arith }

    pub differs : (s ≡ w → ⊥) → IsReply (Refused 5 at) bs (whole at bs)
    unfolding reply
    differs d = record { same = rw (compared, ne_eqb s w d) refl; within = omega arith }

-- so many bytes at a room's start
in_front : (a : Answer) (n : ℕ) (room : List ℕ) (r : Reply) → n ≤ length room → IsReply a (take n room) r → IsReply a room r
unfolding reply
in_front None n room r h w = record { same = w.same; within = omega arith }
in_front (Accepted k) n room r h w =
    let size = length-take-le n room h in
    record { same = ap message (sym (take-take k n room (omega (arith, size, w.within)))) ∙ w.same; within = omega (arith, size, w.within) }
in_front (Refused k at) n room r h w = record { same = w.same; within = omega arith }

-- a fault is answered whatever the bytes
faulty : (f : Fault) (at : ℕ) (bs : List ℕ) → judged (fault_number f) at bs ≡ refused (fault_number f) at
faulty BadEscape at bs = refl
faulty CutEscape at bs = refl
faulty TooLong at bs = refl

-- check, of either outcome of unstuffing
pub front_checked : (all n : ℕ) (room : List ℕ) (a : Answer) → n ≤ length room → IsReply a (take n room) (whole all (take n room)) → IsReply a room (checked_part all room (Ok n))
front_checked all n room a h w = in_front a n room (whole all (take n room)) h w

pub fault_checked : (all : ℕ) (b : Broken) (room : List ℕ) (k : ℕ) → k ≡ fault_number b.fault → IsReply (Refused k b.taken) room (checked_part all room (Err b))
unfolding reply
fault_checked all b room k e = record { same = rw (e) (sym (faulty b.fault b.taken [])); within = omega arith }

-- what unstuffing counts is in the room
pub in_room : (part : List ℕ) (r : Result ℕ Broken) → Unstuffs part r → (room : List ℕ) → length room ≡ 438 → MatchResult r (λ n. n ≤ length room) (λ b. Unit {0})
in_room part (Ok n) w room size = omega (arith, w.count, size, length-take 438 (unstuff part).bytes)
in_room part (Err b) w room size = tt

-- without a fault the bytes as a whole are answered for
faultless : (at : ℕ) (u : Unstuffed) → first_fault u ≡ 0 → whole at u.bytes ≡ verdict at u
unfolding verdict
faultless at u = go (ltb 438 (length u.bytes))
  where
    go : (t : Bool) → cond t 3 u.fault ≡ 0
        → whole at u.bytes ≡ cond t (refused 3 (length (stuff (take 439 u.bytes)))) (cond (eqb u.fault 0) (whole at u.bytes) (refused u.fault (cond (eqb u.fault 1) (length (stuff u.bytes) + 2) at)))
    go true h = absurd (omega arith)
    go false h = rw (eq-eqb u.fault 0 h) refl

-- a part that is unstuffed and then checked is answered as the bytes between two flags are
module _ (part room₀ : List ℕ) (fits : length room₀ ≡ 438) {room : List ℕ} (f : room ≡ written (part_bytes part) room₀) where
  pub room_size : length room ≡ 438
  unfolding written
  room_size =
      ap length f ∙ omega (arith, length-take 438 (unstuff part).bytes, fits, length-append (part_bytes part) (drop (length (part_bytes part)) room₀), length-drop (length (part_bytes part)) room₀)

  pub answered_part : (r : Result ℕ Broken) → Unstuffs part r → (a : Answer) → IsReply a room (checked_part (length part) room r) → IsReply a room (reply_between part)
  unfolding reply_between written
  answered_part (Ok n) w a h =
      let bytes = (unstuff part).bytes in
      let front : take n room ≡ part_bytes part = rw (f, w.count) (take_at (part_bytes part) (drop (length (part_bytes part)) room₀) (length (part_bytes part)) refl) in
      let all : part_bytes part ≡ bytes = take_all 438 bytes (short_enough (unstuff part) w.none) in
      record { same = h.same ∙ ap (whole (length part)) (front ∙ all) ∙ faultless (length part) (unstuff part) w.none; within = h.within }
    where
      short_enough : (u : Unstuffed) → first_fault u ≡ 0 → length u.bytes ≤ 438
      short_enough u = go (ltb 438 (length u.bytes)) refl
        where
          go : (t : Bool) → ltb 438 (length u.bytes) ≡ t → cond t 3 u.fault ≡ 0 → length u.bytes ≤ 438
          go true e h = absurd (omega arith)
          go false e h = ltb-false 438 (length u.bytes) e
  answered_part (Err b) w a h =
      let bytes = (unstuff part).bytes in
      let same : checked_part (length part) room (Err b) ≡ judged (fault_number b.fault) b.taken bytes = faulty b.fault b.taken [] ∙ sym (faulty b.fault b.taken bytes) in
      record { same = h.same ∙ rw (verdict_judged (length part) (unstuff part), sym w.number, sym w.met) same; within = h.within }

module _ (bs : List ℕ) where
  pub no_flag : length bs ≤ unflagged bs → nothing ≡ reply_to_part bs
  unfolding reply_to_part
  no_flag h = rw (le-ltb (unflagged bs) (length bs) h) refl

  pub closing_flag : unflagged bs < length bs → reply_between (take (unflagged bs) bs) ≡ reply_to_part bs
  unfolding reply_to_part
  closing_flag h = rw (lt-ltb (unflagged bs) (length bs) h) refl

-- the part behind the flag at place i, which a flag closes
pub closed_part : (recording : List ℕ) (i end : ℕ) (a : Answer) (room : List ℕ) → i < length recording → end ≡ i + 1 + unflagged (drop (i + 1) recording)
    → (end ≡ length recording → ⊥) → length room ≡ 438 → IsReply a room (reply_between (take (end - (i + 1)) (drop (i + 1) recording)))
    → AnswersPart recording i (record { answer = a; end = end }) room
closed_part recording i end a room h e n s w =
    let bs = drop (i + 1) recording in
    let size : end - (i + 1) ≡ unflagged bs = omega (arith, e) in
    record {
      answers = record {
        same = w.same ∙ ap (λ (k : ℕ). reply_between (take k bs)) size ∙ closing_flag bs (omega (arith, e, n, unflagged_most bs, length-drop (i + 1) recording));
        within = w.within;
      };
      ends = e;
      size = s;
    }
