-- A row of the table of values (RULES 'Values'): what the library's definitions work out, and what that is.
-- Assumes nothing.
use Rattle.std.specs.Prelude.{◌≡◌, ℕ, ◌+◌, ◌*◌, ◌/◌, ◌%◌, true, false, List, [], ◌∷◌, ◌++◌, map, ℤ, pos, negsuc, length, replicate, Result, Ok, Some}
use Rattle.fcs.specs.Fcs.{fcs}
use Rattle.framing.specs.Stuffing.{flag}
use Rattle.framing.specs.Frame.{frame_of}
use Rattle.collecting.specs.Step.{fresh}
use Rattle.collecting.specs.Stream.{Reply, nothing, answers}
use Rattle.units.specs.Feet.{pressure_feet}
use Rattle.message_types.specs.declared.TrackKind.TheVariants.{TrueTrack}
use Rattle.message_types.specs.declared.Speed.TheVariants.{Knots}
use Rattle.message_types.specs.declared.Climb.{Climb}
use Rattle.refusals.specs.declared.Refusal.{Refusal}
use Rattle.message_types.specs.declared.Message.{Message}
use Rattle.message_types.specs.declared.Message.TheVariants.{Heartbeat, Traffic}
use Rattle.messages.specs.Message.{read_message}
use Rattle.information_frames.specs.declared.FrameList.{FrameList}
use Rattle.information_frames.specs.Frames.{length_in}
use Rattle.information_frames.specs.Walk.{payload_frames}
use Rattle.information_frames.specs.Answers.{frame_list}
use Rattle.information_frames.specs.Contents.{contents, payload_with}
use Rattle.information_frames.specs.Samples.{bytes_of}
use Rattle.generic_text.specs.Product.{Decoded, decoded, refused, text_with, decode, encode}

pub data Row : Type 0 where
  -- a message and its check sequence
  sequence : List ℕ → ℕ → Row
  -- a message and its frame
  frame : List ℕ → List ℕ → Row
  -- a message whose frame is as short, or as long, as one of its length can be (RULES 'Framing': n+4 to 2n+6 bytes)
  shortest : List ℕ → Row
  longest : List ℕ → Row
  -- bytes between two flags, and the closing flag's answer
  between : List ℕ → Reply → Row
  -- a message and what reading answers
  read : List ℕ → Result Message Refusal → Row
  -- an altitude's steps, and its feet
  feet : ℕ → ℤ → Row
  -- the two bytes of an information frame's header, and its length
  header : ℕ → ℕ → ℕ → Row
  -- a header at byte 0 of valid application data with zeros behind it, and what listing answers
  list : ℕ → ℕ → Result FrameList Refusal → Row
  -- valid application data of 352 bytes with zeros behind it, and the texts that its frames hold
  texts : List ℕ → List Decoded → Row
  -- the same, and the bytes of those texts, written
  rewritten : List ℕ → List (List ℕ) → Row

-- a heartbeat with status 81 41, its time and its two counts
abbrev pub heartbeat_with : ℕ → ℕ → ℕ → Result Message Refusal
heartbeat_with time uplinks others =
    Ok (Heartbeat (record { status1 = 0x81; status2 = 0x41; time = time; uplinks = uplinks; reserved = 0; basic_and_long = others }))

-- 001 §3.5.2's traffic report, with the fields of altitude and climb
abbrev pub traffic_message : ℕ → ℕ → List ℕ
traffic_message d v =
    0x14 ∷ 0x00 ∷ 0xAB ∷ 0x45 ∷ 0x49 ∷ 0x1F ∷ 0xEF ∷ 0x15 ∷ 0xA8 ∷ 0x89 ∷ 0x78 ∷ (d / 16) ∷ (d % 16 * 16 + 9) ∷ 0xA9 ∷ 0x07
    ∷ (0xB0 + v / 256) ∷ (v % 256) ∷ 0x20 ∷ 0x01 ∷ 0x4E ∷ 0x38 ∷ 0x32 ∷ 0x35 ∷ 0x56 ∷ 0x20 ∷ 0x20 ∷ 0x20 ∷ 0x00 ∷ []

-- what it says: N825V, a light aircraft, airborne, at 123 knots
abbrev pub traffic_with : ℕ → Climb → Result Message Refusal
traffic_with d climb = Ok (Traffic (record {
  report = record {
    alert = 0;
    address_type = 0;
    address = 0xAB4549;
    position = Some (record { latitude = pos 2092821; longitude = negsuc 5731975 });
    altitude = Some (record { steps = d });
    track_kind = TrueTrack;
    extrapolated = false;
    airborne = true;
    integrity = 10;
    accuracy = 9;
    speed = Knots 123;
    climb = climb;
    track = 32;
    emitter = 1;
    call_sign = record { 0 = 78; 1 = 56; 2 = 50; 3 = 53; 4 = 86; 5 = 32; 6 = 32; 7 = 32 };
    priority = 0;
    spare = 0;
  };
}))

-- what the frames of valid application data of 352 bytes hold
unfoldable pub texts_in : List ℕ → List Decoded
texts_in xs = map (λ c. decode c.bytes) (contents (payload_with xs 72))

abbrev pub encoded : Decoded → List ℕ
encoded (decoded t) = encode t
encoded (refused k) = []

-- 001 §5.2.4's report of a place of four letters: 'TAF ', the place, and a body that is the same in each, with five spaces behind a new
-- line and a record separator at its end
abbrev pub report_of : ℕ → Decoded
report_of place =
    decoded
    (text_with 16 25 0
    (bytes_of 4 0x54414620
    (bytes_of 4 place
    (bytes_of 32 0x203236303930305A414D203235313331352030383030364B54205036534D2046
    (bytes_of 32 0x455730363020424B4E3132300A2020202020464D303430302056524230334B54
    (bytes_of 15 0x205036534D205343543235303D0A1E []))))))

unfoldable pub Holds : Row → Type 0
Holds (sequence m n) = fcs m ≡ n
Holds (frame m bs) = frame_of m ≡ bs
Holds (shortest m) = length (frame_of m) ≡ length m + 4
Holds (longest m) = length (frame_of m) ≡ 2 * length m + 6
Holds (between bs a) = answers fresh (flag ∷ bs ++ (flag ∷ [])) ≡ replicate (length bs + 1) nothing ++ (a ∷ [])
Holds (read m r) = read_message m ≡ r
Holds (feet d z) = pressure_feet (record { steps = d }) ≡ z
Holds (header a b n) = length_in a b ≡ n
Holds (list a b l) = frame_list (payload_frames (payload_with (a ∷ b ∷ []) 422)) ≡ l
Holds (texts xs ts) = texts_in xs ≡ ts
Holds (rewritten xs bs) = map encoded (texts_in xs) ≡ bs

infixr 5 ◌and◌
pub data AllHold : List Row → Type 0 where
  done : AllHold []
  ◌and◌ : {r : Row} {rs : List Row} → Holds r → AllHold rs → AllHold (r ∷ rs)
