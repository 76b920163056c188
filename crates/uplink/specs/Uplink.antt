-- The uplink (001 §3.3, RULES 'Uplink'): id 7, 436 bytes, of which the payload is 432.
-- Assumes nothing.
use Rattle.std.specs.Prelude.{◌≡◌, ℕ, ◌/◌, ◌%◌, Bool, cond, List, [], ◌∷◌, ◌++◌, eqb, length, Option, Result, Err, is_ok}
use Rattle.numbers.specs.Lent.{written, stretch, Part}
use Rattle.codec.specs.Reading.{reading}
use Rattle.refusals.specs.declared.Refusal.{Refusal}
use Rattle.refusals.specs.declared.Refusal.TheVariants.{WrongLength}
use Rattle.codec.specs.Writing.{writing, written_output}
use Rattle.message_types.specs.declared.Uplink.{Uplink}
use Rattle.uplink.specs.Reception.{reception_in, good_reception, reception_number}

abbrev pub uplink_in : List ℕ → Uplink
uplink_in m = record { reception = reception_in m }

abbrev pub good_uplink : Uplink → Bool
good_uplink u = good_reception u.reception

-- the id and the time of reception, low byte first
abbrev pub head_bytes : Option ℕ → List ℕ
head_bytes r = 7 ∷ (reception_number r % 256) ∷ (reception_number r / 256 % 256) ∷ (reception_number r / 65536 % 256) ∷ []

abbrev pub uplink_bytes : Uplink → List ℕ → List ℕ
uplink_bytes u payload = head_bytes u.reception ++ payload

abbrev pub read_uplink : List ℕ → Result Uplink Refusal
read_uplink = reading 7 436 uplink_in good_uplink

-- the message from its fifth byte on, where it is an uplink, else no bytes
abbrev pub payload_start : List ℕ → ℕ
payload_start m = cond (is_ok (read_uplink m)) 4 0

abbrev pub payload_size : List ℕ → ℕ
payload_size m = cond (is_ok (read_uplink m)) 432 0

abbrev pub payload_of : List ℕ → List ℕ
payload_of m = stretch (payload_start m) (payload_size m) m

-- handed on without copying
abbrev pub PayloadPart : List ℕ → ℕ × ℕ → List ℕ → ℕ × ℕ → Type 0
PayloadPart m at part place = Part (payload_start m) (payload_size m) m at part place

-- 7 unless the payload has 432 bytes; then as every kind
unfoldable pub writing_uplink : Uplink → List ℕ → ℕ → Result ℕ Refusal
writing_uplink u payload room =
    cond (eqb (length payload) 432) (writing (good_uplink u) (uplink_bytes u payload) room) (Err WrongLength)

pub record WroteUplink (u : Uplink) (payload out : List ℕ) (answer : Result ℕ Refusal) (left : List ℕ) : Type 0 where
  pub answers : answer ≡ writing_uplink u payload (length out)
  pub leaves : left ≡ written (written_output answer (uplink_bytes u payload)) out
