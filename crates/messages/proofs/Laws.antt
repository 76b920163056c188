-- Demand 2 (RULES 'Demands') for messages, from the laws of each kind.
-- Assumes nothing.
use mathlib.Core.Path.{◌≡◌, refl, ap, ◌∙◌, subst}
use mathlib.Core.Bool.{Bool, true}
use Prim.Native.Nat.{ℕ}
use mathlib.Core.List.{List, [], ◌∷◌}
use native.Mathlib.Omega.{arith}
use lib.ListN.{length, drop, get_or, length-drop}
use borrow.Author.Tests.{eqb-true, eq-eqb, ne_eqb}
use Rattle.numbers.specs.Bytes.{AreBytes}
use Rattle.codec.specs.Reading.{reading, fit}
use Rattle.codec.proofs.Outcomes.{accepted}
use Rattle.message_types.specs.declared.Message.{Message}
use Rattle.message_types.specs.declared.Message.TheVariants.{Heartbeat, Initialization, Uplink, Height, Ownship, Geometric, Traffic}
use Rattle.std.specs.Prelude.{Result, Ok, Err}
use Rattle.refusals.specs.declared.Refusal.{Refusal}
use Rattle.heartbeat.specs.Heartbeat.{heartbeat_in, good_heartbeat}
use Rattle.initialization.specs.Initialization.{initialization_in, good_initialization}
use Rattle.altitudes.specs.Height.{terrain_in, good_terrain, terrain_bytes}
use Rattle.altitudes.specs.Geometric.{geometric_in, good_geometric, geometric_bytes}
use Rattle.uplink.specs.Uplink.{uplink_in, good_uplink, uplink_bytes, payload_of}
use Rattle.report.specs.Bytes.{report_bytes}
use Rattle.report.specs.Reading.{good_report, ownship_in, traffic_in}
use Rattle.heartbeat.proofs.Laws as heartbeats
use Rattle.initialization.proofs.Laws as initializations
use Rattle.altitudes.proofs.Back as altitudes
use Rattle.uplink.proofs.Uplinks as uplinks
use Rattle.report.proofs.Laws as reports
use Rattle.messages.specs.declared.Kind.{Kind}
use Rattle.messages.specs.declared.Kind.TheVariants as kind
use Rattle.messages.specs.Message.{kind_in, as_message, read_as, read_message, reading_value, message_bytes, good_message, good_payload, carried}
use Rattle.messages.specs.Claims.{Typed, Reads, WrittenRead, ReadWritten, ReadGood}
use Rattle.refusals.specs.Numbers.{number_in}

-- a reading is what its number and its value say
heard : (r : Result Message Refusal) {x : Message} → reading_value r ≡ x ∷ [] → r ≡ Ok x
heard (Ok y) e = cc
heard (Err refusal) e = let z : ◌≡◌ {A = ℕ} 0 1 = cc in absurd (omega arith)

read_back : (x : Message) (payload : List ℕ) → Typed x → good_payload x payload ≡ true → good_message x ≡ true
    → (read_message (message_bytes x payload) ≡ Ok x) × (payload_of (message_bytes x payload) ≡ carried x payload)
unfolding fit reading kind_in read_message terrain_bytes geometric_bytes report_bytes
read_back (Heartbeat h) payload t p g = (simp (heartbeats.written_read h g, g), refl)
read_back (Initialization i) payload t p g = (simp (initializations.written_read i g), refl)
read_back (Uplink u) payload t p g =
    let e = eqb-true (length payload) 432 p in
    let law = uplinks.written_read u payload g e in
    let back = law.0 in
    let n = length (uplink_bytes u payload) in
    (simp (ne_eqb n 0 (λ z. omega arith), eq-eqb n 436 (omega arith), back, ap good_uplink back ∙ g), law.1)
read_back (Height h) payload t p g = (simp (altitudes.terrain_written_read h t g, g), refl)
read_back (Ownship o) payload t p g = (simp (reports.written_read 10 o.report g, g), refl)
read_back (Geometric a) payload t p g = (simp (altitudes.geometric_written_read a t g, g), refl)
read_back (Traffic o) payload t p g = (simp (reports.written_read 20 o.report g, g), refl)

pub written_read : WrittenRead
written_read x payload t p g = let r = read_back x payload t p g in ((ap number_in r.0, ap reading_value r.0), r.1)

module _ (m : List ℕ) (x : Message) where
  -- what ReadWritten and ReadGood say of one message
  abbrev Same : Message → Type 0
  Same y = (good_message y ≡ true) × (good_payload y (drop 4 m) ≡ true) × (message_bytes y (drop 4 m) ≡ m)

  -- from what reading as one kind accepts, and that kind's laws
  as_kind : {X : Type 0} (id size : ℕ) (value : List ℕ → X) (good : X → Bool) (wrap : X → Message)
      → (get_or m 0 0 ≡ id → length m ≡ size → good (value m) ≡ true → Same (wrap (value m)))
      → as_message wrap (reading id size value good m) ≡ Ok x → Same x
  as_kind {X} id size value good wrap law = go (reading id size value good m) refl
    where
      go : (r : Result X Refusal) → reading id size value good m ≡ r → as_message wrap r ≡ Ok x → Same x
      go (Err refusal) e h = absurd cc
      go (Ok y) e h =
          let r = accepted id size value good m e in
          let made : wrap (value m) ≡ x = ap wrap r.2 ∙ within h in
          subst Same made (law r.0.0 r.0.1 (ap good r.2 ∙ r.1))
        where
          within : ◌≡◌ {A = Result Message Refusal} (Ok (wrap y)) (Ok x) → wrap y ≡ x
          within f = cc

  module _ (bytes : AreBytes m) where
    of_kind : (k : Kind) → read_as k m ≡ Ok x → Same x
    of_kind kind.Heartbeat = as_kind 0 7 heartbeat_in good_heartbeat Heartbeat (λ n l g. (g, refl, heartbeats.read_written m l bytes n))
    of_kind kind.Initialization = as_kind 2 3 initialization_in good_initialization Initialization (λ n l g. (g, refl, initializations.read_written m l bytes n))
    of_kind kind.Uplink = as_kind 7 436 uplink_in good_uplink Uplink (λ n l g. (g, eq-eqb (length (drop 4 m)) 432 (omega (arith, length-drop 4 m)), uplinks.read_written m l bytes n))
    of_kind kind.Height = as_kind 9 3 terrain_in good_terrain Height (λ n l g. (g, refl, altitudes.terrain_read_written m l bytes n))
    of_kind kind.Ownship = as_kind 10 28 ownship_in (λ o. good_report o.report) Ownship (λ n l g. (g, refl, reports.read_written 10 m l bytes n))
    of_kind kind.Geometric = as_kind 11 5 geometric_in good_geometric Geometric (λ n l g. (g, refl, altitudes.geometric_read_written m l bytes n))
    of_kind kind.Traffic = as_kind 20 28 traffic_in (λ o. good_report o.report) Traffic (λ n l g. (g, refl, reports.read_written 20 m l bytes n))
    of_kind kind.Retired = λ h. absurd cc
    of_kind kind.Unknown = λ h. absurd cc

same : (m : List ℕ) (x : Message) → AreBytes m → Reads m x → Same m x x
unfolding read_message
same m x bytes h = of_kind m x bytes (kind_in m) (heard (read_message m) h.1)

pub read_written : ReadWritten
read_written m x bytes h = (same m x bytes h).2

pub read_good : ReadGood
read_good m x bytes h = let s = same m x bytes h in (s.0, s.1)
