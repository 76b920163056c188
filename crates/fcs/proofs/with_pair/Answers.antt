-- `fcs::with_pair` meets its contract: the words of four half bytes are two bytes of the division.
-- Assumes nothing.
use mathlib.Core.Path.{◌≡◌, sym, subst}
use native.Mathlib.Omega.{arith}
use Prim.Native.Nat.{ℕ, ◌+◌, ◌*◌}
use Rattle.numbers.specs.Bits.{◌⊕◌}
use Rattle.fcs.specs.Words.{word_of, by_halves}
use Rattle.fcs.proofs.Words.{folded, quotient_of, joined, by_pair}
use borrow.Author.Rules.{rules}
use Rattle.fcs.proofs.with_pair.Goals as goal

pub returns : goal.returns
unfolding folded quotient_of joined ◌⊕◌
returns c =
    let s = c.args in
    let pair : c.from_be_bytes.result ≡ 256 * s.a + s.b = omega (arith, c.from_be_bytes.ensures) in
    rw (c.word.ensures, c.word-2.ensures, c.word-3.ensures, c.word-4.ensures)
    (subst (λ (x : ℕ). joined word_of s.r ⊕ x ≡ by_halves (by_halves s.r s.a) s.b) (sym pair) (by_pair s.r s.a s.b (search rules) (search rules) (search rules)))
