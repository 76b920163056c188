-- The initialization (001 §3.2, RULES 'Initialization'): id 2, three bytes.
-- Assumes nothing.
use Rattle.std.specs.Prelude.{ℕ, Bool, true, List, [], ◌∷◌, get_or, Result}
use Rattle.refusals.specs.declared.Refusal.{Refusal}
use Rattle.codec.specs.Reading.{reading}
use Rattle.message_types.specs.declared.Initialization.{Initialization}

-- the initialization that three bytes hold
abbrev pub initialization_in : List ℕ → Initialization
initialization_in m = record { first = get_or m 1 0; second = get_or m 2 0 }

-- any two bytes are good
abbrev pub good_initialization : Initialization → Bool
good_initialization i = true

abbrev pub initialization_bytes : Initialization → List ℕ
initialization_bytes i = 2 ∷ i.first ∷ i.second ∷ []

abbrev pub read_initialization : List ℕ → Result Initialization Refusal
read_initialization = reading 2 3 initialization_in good_initialization
