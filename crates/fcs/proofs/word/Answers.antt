-- `fcs::word` meets its contract: each row of the table, computed.
-- Assumes nothing.
use mathlib.Core.Path.{◌≡◌, sym, ap}
use native.Mathlib.Omega.{arith}
use Prim.Native.Nat.{ℕ, zero, suc, ◌%◌, ◌≤◌}
use Rattle.numbers.specs.Bits.{◌⊕◌, bit}
use Rattle.numbers.specs.Packing.{bits_of, bits_in}
use Rattle.fcs.specs.Fcs.{step, fcs}
use Rattle.fcs.specs.Words.{word_of}
use Rattle.fcs.proofs.word.Goals as goal

abbrev NoneBelow : ℕ → ℕ → Type 0
NoneBelow zero n = Unit {0}
NoneBelow (suc k) n = NoneBelow k n × (n ≡ k → ⊥)

beyond : (k n : ℕ) → NoneBelow k n → k ≤ n
beyond zero n h = omega arith
beyond (suc k) n h = omega (arith, beyond k n h.0, h.1)

-- the row that is left
last : (i : ℕ) → NoneBelow 15 (i % 16) → i % 16 ≡ 15
last i h = omega (arith, beyond 15 (i % 16) h)

pub returns-in-0 : goal.returns-in-0
unfolding fcs bits_of bits_in bit step ◌⊕◌
returns-in-0 c = sym (ap word_of c.in-0.is)

pub returns-in-1 : goal.returns-in-1
unfolding fcs bits_of bits_in bit step ◌⊕◌
returns-in-1 c = sym (ap word_of c.in-1.is)

pub returns-in-2 : goal.returns-in-2
unfolding fcs bits_of bits_in bit step ◌⊕◌
returns-in-2 c = sym (ap word_of c.in-2.is)

pub returns-in-3 : goal.returns-in-3
unfolding fcs bits_of bits_in bit step ◌⊕◌
returns-in-3 c = sym (ap word_of c.in-3.is)

pub returns-in-4 : goal.returns-in-4
unfolding fcs bits_of bits_in bit step ◌⊕◌
returns-in-4 c = sym (ap word_of c.in-4.is)

pub returns-in-5 : goal.returns-in-5
unfolding fcs bits_of bits_in bit step ◌⊕◌
returns-in-5 c = sym (ap word_of c.in-5.is)

pub returns-in-6 : goal.returns-in-6
unfolding fcs bits_of bits_in bit step ◌⊕◌
returns-in-6 c = sym (ap word_of c.in-6.is)

pub returns-in-7 : goal.returns-in-7
unfolding fcs bits_of bits_in bit step ◌⊕◌
returns-in-7 c = sym (ap word_of c.in-7.is)

pub returns-in-8 : goal.returns-in-8
unfolding fcs bits_of bits_in bit step ◌⊕◌
returns-in-8 c = sym (ap word_of c.in-8.is)

pub returns-in-9 : goal.returns-in-9
unfolding fcs bits_of bits_in bit step ◌⊕◌
returns-in-9 c = sym (ap word_of c.in-9.is)

pub returns-in-10 : goal.returns-in-10
unfolding fcs bits_of bits_in bit step ◌⊕◌
returns-in-10 c = sym (ap word_of c.in-10.is)

pub returns-in-11 : goal.returns-in-11
unfolding fcs bits_of bits_in bit step ◌⊕◌
returns-in-11 c = sym (ap word_of c.in-11.is)

pub returns-in-12 : goal.returns-in-12
unfolding fcs bits_of bits_in bit step ◌⊕◌
returns-in-12 c = sym (ap word_of c.in-12.is)

pub returns-in-13 : goal.returns-in-13
unfolding fcs bits_of bits_in bit step ◌⊕◌
returns-in-13 c = sym (ap word_of c.in-13.is)

pub returns-in-14 : goal.returns-in-14
unfolding fcs bits_of bits_in bit step ◌⊕◌
returns-in-14 c = sym (ap word_of c.in-14.is)

pub returns-in_default : goal.returns-in_default
unfolding fcs bits_of bits_in bit step ◌⊕◌
returns-in_default c = sym (ap word_of (last c.args.i c.in_default.in_default-own.rest))
