-- A part is unstuffed a byte at a time: what is left stands behind what was taken.
-- Assumes nothing.
use mathlib.Core.Path.{◌≡◌, refl, sym, ap, ap₂, ◌∙◌}
use mathlib.Core.Bool.{true, false, ◌||◌}
use Prim.Native.Nat.{ℕ, suc, ◌+◌, ◌≤◌, ◌<◌}
use mathlib.Core.List.{List, [], ◌∷◌, ◌++◌, append-nil}
use native.Mathlib.Omega.{arith}
use native.Mathlib.Numerals.{add-one}
use lib.Dec.{eqb}
use lib.ListN.{length, take, drop, get_or, set, length-append, drop_of_length-le}
use lib.Seq.{drop-cons, take_all, take_at, append_snoc}
use borrow.Author.Tests.{ne_eqb, lt-ltb, le-ltb}
use Rattle.numbers.specs.Bits.{◌⊕◌}
use Rattle.numbers.specs.Lent.{written, Stored}
use Rattle.numbers.proofs.Storing.{also, from_first}
use Rattle.framing.specs.Stuffing.{stuff, unstuffed, unstuff, Flagless}
use Rattle.framing.proofs.Unstuffing.{unstuff_plain, escape_back, escape_plain, flagless_at}
use Rattle.collecting.proofs.Holding.{joined, stuff_more}
use Rattle.recording.specs.declared.Broken.{Broken}
use Rattle.recording.specs.declared.Fault.TheVariants.{BadEscape, CutEscape, TooLong}
use Rattle.recording.specs.declared.Unescaped.{Unescaped}
use Rattle.recording.specs.Steps.{fault_number, TakesByte, Breaks, part_bytes, Whole, Breaking}

module _ (part : List ℕ) (i : ℕ) (l : i < length part) where
  one : drop i part ≡ get_or part i 0 ∷ drop (i + 1) part
  one = rw (add-one, drop-cons part i 0 l)

  pub plain : Flagless part → (get_or part i 0 ≡ 0x7D → ⊥) → TakesByte part i (record { byte = get_or part i 0; next = i + 1 })
  plain f n =
      let e = ne_eqb (get_or part i 0) 0x7D n in
      record {
        moves = omega arith;
        ends = omega arith;
        left = ap unstuff one ∙ unstuff_plain (get_or part i 0) (drop (i + 1) part) e;
        size = ap (λ (n : ℕ). n + i) (ap length (escape_plain (get_or part i 0) (flagless_at part i l f) e)) ∙ omega arith;
      }

  module _ (e : get_or part i 0 ≡ 0x7D) where
    pub cut_off : i + 1 ≡ length part → Breaks part i (record { fault = CutEscape; taken = i + 1 })
    unfolding unstuff
    cut_off h = record {
      same = ap unstuff (one ∙ ap₂ (λ (b : ℕ) (t : List ℕ). b ∷ t) e (drop_of_length-le part {i = i + 1} (omega arith)));
      met = h;
    }

    module _ (k : i + 1 < length part) where
      two : drop i part ≡ 0x7D ∷ get_or part (i + 1) 0 ∷ drop (i + 2) part
      two =
          let s : suc (i + 1) ≡ i + 2 = omega arith in
          one ∙ ap₂ (λ (b : ℕ) (t : List ℕ). b ∷ t) e (drop-cons part (i + 1) 0 k ∙ ap (λ (n : ℕ). get_or part (i + 1) 0 ∷ drop n part) s)

      pub escaped : (eqb (get_or part (i + 1) 0) 0x5D || eqb (get_or part (i + 1) 0) 0x5E) ≡ true → TakesByte part i (record { byte = get_or part (i + 1) 0 ⊕ 0x20; next = i + 2 })
      unfolding unstuff
      escaped t = record {
        moves = omega arith;
        ends = omega arith;
        left = ap unstuff two ∙ simp t;
        size = ap (λ (n : ℕ). n + i) (ap length (escape_back (get_or part (i + 1) 0) t)) ∙ omega arith;
      }

      pub bad_escape : (eqb (get_or part (i + 1) 0) 0x5D || eqb (get_or part (i + 1) 0) 0x5E) ≡ false → Breaks part i (record { fault = BadEscape; taken = i + 2 })
      unfolding unstuff
      bad_escape t = record { same = ap unstuff two ∙ simp t; met = refl }

-- n bytes of a part are unstuffed and stored, those up to place i
pub record Unpacked (part room₀ room : List ℕ) (i n : ℕ) : Type 0 where
  pub bytes : List ℕ
  pub stored : Stored room₀ 0 bytes n room
  pub fits : length room₀ ≡ 438
  pub most : n ≤ 438
  pub ends : i ≤ length part
  pub stuffed : length (stuff bytes) ≡ i
  pub all : unstuff part ≡ joined bytes (unstuff (drop i part))
  pub flagless : Flagless part

pub starts : (part room : List ℕ) → Flagless part → length room ≡ 438 → Unpacked part room room 0 0
starts part room f s = record {
  bytes = [];
  stored = record { ends = refl; leaves = refl };
  fits = s;
  most = omega arith;
  ends = omega arith;
  stuffed = unfold stuff in refl;
  all = refl;
  flagless = f;
}

module _ {part room₀ room : List ℕ} {i n : ℕ} (u : Unpacked part room₀ room i n) where
  ys : List ℕ
  ys = u.bytes

  size : length ys ≡ n
  unfolding ys
  size = omega (arith, u.stored.ends)

  holds : room ≡ written ys room₀
  unfolding ys
  holds = u.stored.leaves ∙ from_first ys room₀ (omega (arith, size, u.fits, u.most))

  front : take 438 ys ≡ ys
  front = take_all 438 ys (omega (arith, size, u.most))

  -- no more bytes come
  pub ended : (b : Broken) → Breaks part i b → Breaking part b × (room ≡ written (part_bytes part) room₀)
  unfolding ys
  ended b w =
      let whole : unstuff part ≡ unstuffed ys (fault_number b.fault) = u.all ∙ ap (joined ys) w.same ∙ ap (λ (l : List ℕ). unstuffed l (fault_number b.fault)) (append-nil ys) in
      let most = le-ltb 438 (length ys) (omega (arith, size, u.most)) in
      (record { number = rw (whole, most) refl; met = rw (whole, most, u.stuffed) w.met }, rw (whole, front) holds)

  pub finished : length part ≤ i → Whole part n × (room ≡ written (part_bytes part) room₀)
  unfolding unstuff ys
  finished h =
      let whole : unstuff part ≡ unstuffed ys 0 = u.all ∙ ap (joined ys) (ap unstuff (drop_of_length-le part h)) ∙ ap (λ (l : List ℕ). unstuffed l 0) (append-nil ys) in
      (record { none = rw (whole, le-ltb 438 (length ys) (omega (arith, size, u.most))) refl; count = rw (whole, front) (sym size) }, rw (whole, front) holds)

  module _ (v : Unescaped) (r : TakesByte part i v) where
    behind : List ℕ
    behind = (unstuff (drop v.next part)).bytes

    more_all : unstuff part ≡ unstuffed (ys ++ v.byte ∷ behind) (unstuff (drop v.next part)).fault
    unfolding behind ys
    more_all = u.all ∙ ap (joined ys) r.left

    grows : length (stuff (ys ++ (v.byte ∷ []))) ≡ v.next
    unfolding ys
    grows = omega (arith, stuff_more ys v.byte, r.size, u.stuffed)

    pub full : n ≡ 438 → Breaking part (record { fault = TooLong; taken = v.next }) × (room ≡ written (part_bytes part) room₀)
    full e =
        let over = lt-ltb 438 (length (ys ++ v.byte ∷ behind)) (omega (arith, size, length-append ys (v.byte ∷ behind))) in
        let one_more : take 439 (ys ++ v.byte ∷ behind) ≡ ys ++ (v.byte ∷ []) =
        ap (take 439) (sym (append_snoc ys v.byte behind)) ∙ take_at (ys ++ (v.byte ∷ [])) behind 439 (omega (arith, size, length-append ys (v.byte ∷ []))) in
        let all = take_at ys (v.byte ∷ behind) 438 (size ∙ e) in
        (record { number = rw (more_all, over) refl; met = rw (more_all, over, one_more, grows) refl }, rw (more_all, all) holds)

    pub more : (n ≡ 438 → ⊥) → Unpacked part room₀ (set room n v.byte) v.next (n + 1)
    unfolding behind ys
    more d = record {
      bytes = ys ++ (v.byte ∷ []);
      stored = also ys v.byte (n + 1) refl u.stored;
      fits = u.fits;
      most = omega (arith, u.most);
      ends = r.ends;
      stuffed = grows;
      all = more_all ∙ ap (λ (l : List ℕ). unstuffed l (unstuff (drop v.next part)).fault) (sym (append_snoc ys v.byte behind));
      flagless = u.flagless;
    }
