-- `recording::read_recording` meets its contract.
-- Assumes nothing.
use mathlib.Core.Path.{◌≡◌, refl, sym, ap, ◌∙◌}
use mathlib.Core.Bool.{Bool, ◌||◌}
use Prim.Native.Nat.{ℕ, ◌/◌}
use mathlib.Core.List.{List}
use lib.Dec.{ltb}
use lib.ListN.{length}
use Rattle.numbers.specs.Lent.{written}
use Rattle.recording.specs.declared.Needed.{Needed}
use Rattle.recording.specs.Recording.{needed_by, is_short, recorded}
use Rattle.recording.proofs.read_recording.Goals as goal

-- the test, of what is needed
tested : (bs : List ℕ) (numbers bytes : ℕ) {n : Needed} {b : Bool} → n ≡ needed_by bs → (ltb (numbers / 3) n.entries || ltb bytes n.bytes) ≡ b → is_short bs numbers bytes ≡ b
tested bs numbers bytes e h = sym (ap (λ (n : Needed). ltb (numbers / 3) n.entries || ltb bytes n.bytes) e) ∙ h

pub returns-then-list-needed : goal.returns-then-list-needed
unfolding recorded written
returns-then-list-needed c =
    let a = c.args in
    record { answers = rw (tested a.recording.now (length a.list.now) (length a.messages.now) c.measure-needed.ensures c.if-list-needed.true) refl; leaves_list = refl; leaves_messages = refl }

pub returns : goal.returns
unfolding recorded
returns c =
    let a = c.args in
    record {
      answers = rw (tested a.recording.now (length a.list.now) (length a.messages.now) c.measure-needed.ensures c.if-list-needed.false, c.measure-needed.ensures) refl;
      leaves_list = c.write.ensures.0;
      leaves_messages = c.write.ensures.1;
    }
