-- A report's bytes (001 §3.5.1, RULES 'Reports'): the id, then st aa aa aa ll ll ll nn nn nn dd dm ia hh hv vv tt ee, eight bytes of call sign, px,
-- where each letter is four bits.
-- Assumes nothing.
use Rattle.std.specs.Prelude.{ℕ, ◌+◌, ◌*◌, ◌/◌, ◌%◌, List, [], ◌∷◌, eqb, pos, negsuc, get_or}
use Rattle.std.specs.Int.{from_bool}
use Rattle.numbers.specs.Signed.{field_of}
use Rattle.c_report.specs.Flat.{track_number, track_from}
use Rattle.report.specs.Marks.{position_of, place_of, altitude_of, steps_or, speed_of, knots_or, climb_of, climb_or}
use Rattle.report.specs.declared.Codes.{Codes}
use Rattle.message_types.specs.declared.CallSign.{CallSign}
use Rattle.message_types.specs.declared.Ownship.{Ownship}
use Rattle.message_types.specs.declared.Report.{Report}
use Rattle.message_types.specs.declared.Traffic.{Traffic}

abbrev pub three : ℕ → ℕ → ℕ → ℕ
three a b c = a * 65536 + b * 256 + c

abbrev pub three_at : List ℕ → ℕ → ℕ
three_at m at = three (get_or m at 0) (get_or m (at + 1) 0) (get_or m (at + 2) 0)

-- twelve bits: all of a, then b's high half
abbrev pub twelve_high : ℕ → ℕ → ℕ
twelve_high a b = a * 16 + b / 16

abbrev pub high_at : List ℕ → ℕ → ℕ
high_at m at = twelve_high (get_or m at 0) (get_or m (at + 1) 0)

-- twelve bits: a's low half, then all of b
abbrev pub twelve_low : ℕ → ℕ → ℕ
twelve_low a b = a % 16 * 256 + b

abbrev pub low_at : List ℕ → ℕ → ℕ
low_at m at = twelve_low (get_or m at 0) (get_or m (at + 1) 0)

-- the numbers that stand in the bytes for the fields with a sign, a mark or a name
abbrev pub codes_in : List ℕ → Codes
codes_in m = record {
  latitude = three_at m 5;
  longitude = three_at m 8;
  altitude = high_at m 11;
  kind = get_or m 12 0 % 4;
  extrapolated = get_or m 12 0 / 4 % 2;
  airborne = get_or m 12 0 / 8 % 2;
  speed = high_at m 14;
  climb = low_at m 15;
}

abbrev pub call_sign_in : List ℕ → CallSign
call_sign_in m = record {
  0 = get_or m 19 0;
  1 = get_or m 20 0;
  2 = get_or m 21 0;
  3 = get_or m 22 0;
  4 = get_or m 23 0;
  5 = get_or m 24 0;
  6 = get_or m 25 0;
  7 = get_or m 26 0;
}

-- the report that the bytes hold
unfoldable pub report_in : List ℕ → Report
report_in m = record {
  alert = get_or m 1 0 / 16;
  address_type = get_or m 1 0 % 16;
  address = three_at m 2;
  position = position_of (codes_in m).latitude (codes_in m).longitude (get_or m 13 0 / 16);
  altitude = altitude_of (codes_in m).altitude;
  track_kind = track_from (codes_in m).kind;
  extrapolated = eqb (codes_in m).extrapolated 1;
  airborne = eqb (codes_in m).airborne 1;
  integrity = get_or m 13 0 / 16;
  accuracy = get_or m 13 0 % 16;
  speed = speed_of (codes_in m).speed;
  climb = climb_of (codes_in m).climb;
  track = get_or m 17 0;
  emitter = get_or m 18 0;
  call_sign = call_sign_in m;
  priority = get_or m 27 0 / 16;
  spare = get_or m 27 0 % 16;
}

-- the climb's marks are 0x1FE, 0xE02 and 0x800
unfoldable pub codes_of : Report → Codes
codes_of r = record {
  latitude = field_of 0x800000 (place_of r.position).latitude;
  longitude = field_of 0x800000 (place_of r.position).longitude;
  altitude = steps_or r.altitude 0xFFF;
  kind = track_number r.track_kind;
  extrapolated = from_bool r.extrapolated;
  airborne = from_bool r.airborne;
  speed = knots_or r.speed 0xFFE 0xFFF;
  climb = field_of 0x800 (climb_or r.climb (pos 510) (negsuc 509) (negsuc 2047));
}

-- a number too large for its bits is cut to them: a good report has none
abbrev pub packed : ℕ → Report → Codes → List ℕ
packed id r c =
    id
    ∷ (r.alert % 16 * 16 + r.address_type % 16)
    ∷ (r.address / 65536 % 256)
    ∷ (r.address / 256 % 256)
    ∷ (r.address % 256)
    ∷ (c.latitude / 65536 % 256)
    ∷ (c.latitude / 256 % 256)
    ∷ (c.latitude % 256)
    ∷ (c.longitude / 65536 % 256)
    ∷ (c.longitude / 256 % 256)
    ∷ (c.longitude % 256)
    ∷ (c.altitude / 16 % 256)
    ∷ (c.altitude % 16 * 16 + (c.airborne % 2 * 8 + c.extrapolated % 2 * 4 + c.kind % 4))
    ∷ (r.integrity % 16 * 16 + r.accuracy % 16)
    ∷ (c.speed / 16 % 256)
    ∷ (c.speed % 16 * 16 + c.climb / 256 % 16)
    ∷ (c.climb % 256)
    ∷ r.track
    ∷ r.emitter
    ∷ r.call_sign.0
    ∷ r.call_sign.1
    ∷ r.call_sign.2
    ∷ r.call_sign.3
    ∷ r.call_sign.4
    ∷ r.call_sign.5
    ∷ r.call_sign.6
    ∷ r.call_sign.7
    ∷ (r.priority % 16 * 16 + r.spare % 16)
    ∷ []

-- the report's bytes, with this id
unfoldable pub report_bytes : ℕ → Report → List ℕ
report_bytes id r = packed id r (codes_of r)

-- each kind owns its id
abbrev pub ownship_bytes : Ownship → List ℕ
ownship_bytes x = report_bytes 10 x.report

abbrev pub traffic_bytes : Traffic → List ℕ
traffic_bytes x = report_bytes 20 x.report
