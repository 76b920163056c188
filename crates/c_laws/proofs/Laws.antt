-- Demand 2 (RULES 'Demands') over the functions for C, from the laws of each kind and of its struct.
-- Assumes nothing.
use mathlib.Core.Path.{◌≡◌, refl, ap, ◌∙◌}
use mathlib.Core.Bool.{Bool, true, false, cond, ◌&&◌}
use Prim.Native.Nat.{ℕ, ◌<◌}
use mathlib.Core.List.{List}
use native.Mathlib.Omega.{arith}
use lib.Dec.{eqb, leb}
use lib.ListN.{length, drop, get_or, length-drop}
use lib.Signed.{mag}
use borrow.Author.Tests.{leb-true, le-leb, lt-leb, eqb-true, eq-eqb, ne_eqb}
use Rattle.numbers.specs.Bytes.{AreBytes}
use Rattle.numbers.proofs.Every.{both, also_false, chosen}
use Rattle.std.specs.Prelude.{Ok, Err, unwrap_or}
use Rattle.refusals.specs.declared.Refusal.TheVariants.{WrongLength}
use Rattle.codec.specs.Reading.{fit}
use Rattle.codec.specs.Writing.{writing}
use Rattle.codec.proofs.Outcomes.{other_id}
use Rattle.units.specs.declared.TerrainFeet.{TerrainFeet}
use Rattle.heartbeat.specs.Heartbeat.{heartbeat_in, good_heartbeat, heartbeat_bytes}
use Rattle.heartbeat.proofs.Laws as heartbeats
use Rattle.initialization.specs.Initialization.{initialization_in, good_initialization, initialization_bytes}
use Rattle.initialization.proofs.Laws as initializations
use Rattle.altitudes.specs.Height.{terrain_in, good_terrain, terrain_bytes}
use Rattle.altitudes.specs.Geometric.{geometric_in, good_geometric, geometric_bytes}
use Rattle.altitudes.specs.Claims.{TypedHeight}
use Rattle.altitudes.proofs.Back as altitudes
use Rattle.uplink.specs.Reception.{good_reception}
use Rattle.uplink.specs.Uplink.{uplink_in, good_uplink, uplink_bytes, read_uplink, writing_uplink}
use Rattle.uplink.proofs.Uplinks as uplinks
use Rattle.report.specs.Bytes.{report_in, report_bytes}
use Rattle.report.specs.Reading.{good_report, in_numbers, report_read}
use Rattle.report.proofs.Marked.{kind_code, kind_fits}
use Rattle.report.proofs.Laws as reports
use Rattle.c_structs.specs.declared.FlatUplink.{FlatUplink}
use Rattle.c_structs.specs.declared.FlatHeight.{FlatHeight}
use Rattle.c_structs.specs.declared.FlatGeometric.{FlatGeometric}
use Rattle.c_structs.specs.Flat.{none_mark, marked, height_from, reception_from, flat_uplink, uplink_from, flat_height, terrain_from, flat_geometric, geometric_from}
use Rattle.c_structs.proofs.Laws.{there_and_back}
use Rattle.c_structs.specs.Answers.{heartbeat_answer, initialization_answer, uplink_answer, height_answer, geometric_answer}
use Rattle.c_report.specs.Answers.{report_answer}
use Rattle.c_report.specs.declared.FlatReport.{FlatReport}
use Rattle.c_report.specs.Flat.{track_number, flat_report, report_from}
use Rattle.c_report.proofs.Laws.{report_there_and_back}
use Rattle.messages.specs.Message.{kind_of, kind_number}
use Rattle.messages.proofs.Retired.{id_of_retired, kind_of_retired}
use Rattle.gdl90.specs.Messages.{kind_answer, AnsweredWriting, good_flat_report}
use Rattle.c_laws.specs.Zeroed.{beside, zeroed_uplink, zeroed_height, zeroed_geometric, zeroed_report}
use Rattle.c_laws.specs.Claims.{Any, RoundTrip, RoundTrips, RetiredKind, UnknownIn, position, altitude, track, speed, climb, UnknownMarks}
use Rattle.c_laws.proofs.Fields as fields
use Rattle.c_laws.proofs.Trips.{named_by, trip, read, back, again, kind_trip, bad}
use Rattle.refusals.specs.Numbers.{number_in}

-- the feet are of their type, whatever the mark
typed_height : (mark : ℕ) (h : TerrainFeet) → mag h.feet < 0x8000 → TypedHeight (height_from mark h)
unfolding marked
typed_height mark h t = chosen TypedHeight mark 0 _ _ (λ e. t) (chosen TypedHeight mark 1 _ _ (λ e. tt) (omega arith))

-- a time of reception that writing accepts comes back
reception : (mark n : ℕ) → good_reception (reception_from mark n) ≡ true → (none_mark (reception_from mark n) ≡ mark) × (unwrap_or (reception_from mark n) 0 ≡ beside mark 0 n)
reception mark n g = fields.reception_back mark n (fields.within 1 mark (fields.reception_unknown mark n) g)

-- each struct that writing accepts comes back with 0 beside its marks
uplink_fine : (f : FlatUplink) → good_uplink (uplink_from f) ≡ true → flat_uplink (uplink_from f) ≡ zeroed_uplink f
uplink_fine f g = let b = reception f.reception_mark f.reception g in simp (b.0, b.1)

height_fine : (f : FlatHeight) → good_terrain (terrain_from f) ≡ true → flat_height (terrain_from f) ≡ zeroed_height f
height_fine f g =
    let mark = f.height_mark in
    let b = fields.height_back mark f.height (fields.within 1 mark (fields.height_unknown mark f.height) g) in
    simp (b.0, b.1)

geometric_fine : (f : FlatGeometric) → good_geometric (geometric_from f) ≡ true → flat_geometric (geometric_from f) ≡ zeroed_geometric f
geometric_fine f g =
    let mark = f.merit_mark in
    let b = fields.merit_back mark f.merit (fields.within 2 mark (fields.merit_unknown mark f.merit) g) in
    simp (b.0, b.1)

report_fine : (f : FlatReport) → good_flat_report f ≡ true → (good_report (report_from f) ≡ true) × (flat_report (report_from f) ≡ zeroed_report f)
unfolding good_report
report_fine f g =
    let t = both (leb f.track_kind 3) (good_report (report_from f)) g in
    let w = both _ _ t.1 in
    let v = both _ _ w.0 in
    let h = both _ _ v.0 in
    let d = both _ _ h.0 in
    let position = fields.position_back f.position_mark f.latitude f.longitude (fields.within 1 f.position_mark (fields.position_unknown f.position_mark f.latitude f.longitude f.integrity) d.0) in
    let altitude = fields.altitude_back f.altitude_mark f.altitude (fields.within 1 f.altitude_mark (fields.altitude_unknown f.altitude_mark f.altitude) d.1) in
    let speed = fields.speed_back f.speed_mark f.speed (fields.within 2 f.speed_mark (fields.speed_unknown f.speed_mark f.speed) h.1) in
    let climb = fields.climb_back f.climb_mark f.climb (fields.within 3 f.climb_mark (fields.climb_unknown f.climb_mark f.climb) v.1) in
    let track = kind_code f.track_kind (omega (arith, leb-true f.track_kind 3 t.0)) in
    (t.1, simp (position.0, position.1, position.2, altitude.0, altitude.1, speed.0, speed.1, climb.0, climb.1, track))

-- an ownship's and a traffic report's
report_trip : (id : ℕ) → kind_number (kind_of id) ≡ 0
    → RoundTrip id FlatReport Any (λ f. AnsweredWriting (good_flat_report f) (report_bytes id (report_from f)))
    (λ m. (report_answer (report_read id m)).number) (λ m. (report_answer (report_read id m)).report) zeroed_report
unfolding fit report_bytes
report_trip id known =
    kind_trip id 28 report_in good_report (λ r. (report_answer (in_numbers r)).number) (λ e. refl) (λ r. refl) (λ r. (report_answer (in_numbers r)).report) flat_report (λ r. refl)
    report_from (report_bytes id) good_flat_report report_there_and_back report_fine
    (λ r g. simp (le-leb (track_number r.track_kind) 3 (omega (arith, kind_fits r.track_kind)), report_there_and_back r, g))
    (known, λ e. omega arith) (λ r. simp (eq-eqb id id refl)) (λ f t g. reports.written_read id (report_from f) g) (reports.read_written id)

-- an uplink's, with its payload
module _ (x : FlatUplink × List ℕ) where
  abbrev good : Bool
  good = eqb (length x.1) 432 && good_uplink (uplink_from x.0)

  abbrev bytes : List ℕ
  bytes = uplink_bytes (uplink_from x.0) x.1

  accepts : (room : ℕ) → good ≡ true → writing_uplink (uplink_from x.0) x.1 room ≡ writing true bytes room
  unfolding writing_uplink
  accepts room g = let b = both (eqb (length x.1) 432) _ g in simp (b.0, b.1)

  refuses : (room : ℕ) → good ≡ false → number_in (writing_uplink (uplink_from x.0) x.1 room) ≡ 0 → ⊥
  unfolding writing_uplink writing
  refuses room = go (eqb (length x.1) 432) (good_uplink (uplink_from x.0))
    where
      go : (s t : Bool) → s && t ≡ false → number_in (cond s (writing t bytes room) (Err WrongLength)) ≡ 0 → ⊥
      go true true e z = let y : ◌≡◌ {A = ℕ} 0 1 = cc in omega arith
      go true false e z = omega arith
      go false t e z = omega arith

  uplink_back : good ≡ true → ((uplink_answer (read_uplink bytes)).number ≡ 0) × (◌≡◌ {A = FlatUplink × List ℕ} ((uplink_answer (read_uplink bytes)).uplink, drop 4 bytes) (zeroed_uplink x.0, x.1))
  unfolding fit
  uplink_back g =
      let b = both (eqb (length x.1) 432) _ g in
      let e = eqb-true (length x.1) 432 b.0 in
      let n = length bytes in
      let fits : fit 7 436 bytes ≡ Ok bytes = simp (ne_eqb n 0 (λ z. omega arith), eq-eqb n 436 (omega arith)) in
      let u = uplink_from x.0 in
      let r =
      back 7 436 uplink_in good_uplink (λ y. (uplink_answer y).number) (λ e. refl) (λ y. refl) (λ y. (uplink_answer y).uplink) flat_uplink (λ y. refl)
      u fits (uplinks.written_read u x.1 b.1 e).0 b.1 (uplink_fine x.0 b.1) in
      (r.0, λ i. (r.1 i, x.1))

uplink_again : (m : List ℕ) → AreBytes m → (uplink_answer (read_uplink m)).number ≡ 0
    → (good ((uplink_answer (read_uplink m)).uplink, drop 4 m) ≡ true) × (bytes ((uplink_answer (read_uplink m)).uplink, drop 4 m) ≡ m)
uplink_again m b z =
    let r = read 7 436 uplink_in good_uplink (λ y. (uplink_answer y).number) (λ e. refl) (λ y. refl) (λ y. (uplink_answer y).uplink) flat_uplink (λ y. refl) m z in
    let s =
    again 7 436 uplink_in good_uplink (λ y. (uplink_answer y).number) (λ e. refl) (λ y. refl) (λ y. (uplink_answer y).uplink) flat_uplink (λ y. refl)
    uplink_from (λ u. uplink_bytes u (drop 4 m)) m there_and_back.0 (λ l i. uplinks.read_written m l b i) z in
    (simp (eq-eqb (length (drop 4 m)) 432 (omega (arith, length-drop 4 m, r.0.1)), s.0), s.1)

uplink_named : (m : List ℕ) → (uplink_answer (read_uplink m)).number ≡ 0 → kind_answer m ≡ record { number = 0; id = 7 }
uplink_named m z =
    let r = read 7 436 uplink_in good_uplink (λ y. (uplink_answer y).number) (λ e. refl) (λ y. refl) (λ y. (uplink_answer y).uplink) flat_uplink (λ y. refl) m z in
    named_by 7 refl m (λ e. omega (arith, r.0.1)) r.0.0

uplink_others : (m : List ℕ) → (get_or m 0 0 ≡ 7 → ⊥) → (uplink_answer (read_uplink m)).number ≡ 6
uplink_others m h = rw (other_id 7 436 uplink_in good_uplink m h)

pub round_trips : RoundTrips
unfolding fit terrain_bytes geometric_bytes
round_trips = record {
  heartbeat =
      kind_trip 0 7 heartbeat_in good_heartbeat (λ r. (heartbeat_answer r).number) (λ e. refl) (λ h. refl) (λ r. (heartbeat_answer r).heartbeat) (λ h. h) (λ h. refl)
      (λ h. h) heartbeat_bytes good_heartbeat (λ h. refl) (λ h g. (g, refl)) (λ h g. g) (refl, λ e. omega arith) (λ h. refl) (λ h t g. heartbeats.written_read h g) heartbeats.read_written;
  initialization =
      kind_trip 2 3 initialization_in good_initialization (λ r. (initialization_answer r).number) (λ e. refl) (λ i. refl) (λ r. (initialization_answer r).initialization) (λ i. i) (λ i. refl)
      (λ i. i) initialization_bytes good_initialization (λ i. refl) (λ i g. (g, refl)) (λ i g. g) (refl, λ e. omega arith) (λ i. refl) (λ i t g. initializations.written_read i g) initializations.read_written;
  uplink = trip (λ x. writing_uplink (uplink_from x.0) x.1) good bytes accepts refuses (λ x t. uplink_back x) uplink_again uplink_named uplink_others;
  height =
      kind_trip 9 3 terrain_in good_terrain (λ r. (height_answer r).number) (λ e. refl) (λ h. refl) (λ r. (height_answer r).height) flat_height (λ h. refl)
      terrain_from terrain_bytes (λ f. good_terrain (terrain_from f)) there_and_back.1 (λ f g. (g, height_fine f g)) (λ h g. ap good_terrain (there_and_back.1 h) ∙ g) (refl, λ e. omega arith) (λ h. refl)
      (λ f t g. altitudes.terrain_written_read (terrain_from f) (typed_height f.height_mark f.height t) g) altitudes.terrain_read_written;
  ownship = report_trip 10 refl;
  geometric =
      kind_trip 11 5 geometric_in good_geometric (λ r. (geometric_answer r).number) (λ e. refl) (λ g. refl) (λ r. (geometric_answer r).geometric) flat_geometric (λ g. refl)
      geometric_from geometric_bytes (λ f. good_geometric (geometric_from f)) there_and_back.2 (λ f g. (g, geometric_fine f g)) (λ y g. ap good_geometric (there_and_back.2 y) ∙ g) (refl, λ e. omega arith) (λ y. refl)
      (λ f t g. altitudes.geometric_written_read (geometric_from f) t g) altitudes.geometric_read_written;
  traffic = report_trip 20 refl;
}

pub retired_kind : RetiredKind
retired_kind m = (λ r. simp (kind_of_retired m r), id_of_retired m)

report_unknown : (f : FlatReport) → UnknownIn f → good_flat_report f ≡ false
unfolding good_report
report_unknown f (position h) = simp (fields.position_unknown f.position_mark f.latitude f.longitude f.integrity h, also_false)
report_unknown f (altitude h) = simp (fields.altitude_unknown f.altitude_mark f.altitude h, also_false)
report_unknown f (track h) = simp (lt-leb f.track_kind 3 h)
report_unknown f (speed h) = simp (fields.speed_unknown f.speed_mark f.speed h, also_false)
report_unknown f (climb h) = simp (fields.climb_unknown f.climb_mark f.climb h, also_false)

pub unknown_marks : UnknownMarks
unfolding writing_uplink
unknown_marks = record {
  uplink = λ f payload long h. rw (eq-eqb (length payload) 432 long) (bad (fields.reception_unknown f.reception_mark f.reception h));
  height = λ f h. bad (fields.height_unknown f.height_mark f.height h);
  report = λ f h. (bad (report_unknown f h), bad (report_unknown f h));
  geometric = λ f h. bad (fields.merit_unknown f.merit_mark f.merit h);
}
