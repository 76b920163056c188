-- What is proved of listing and adding (RULES 'Uplink payloads', 'Adding a frame'), over the definitions that the contracts cite.
-- Assumes nothing.
use Rattle.std.specs.Prelude.{◌≡◌, Bool, true, false, ◌||◌, ℕ, ◌+◌, ◌<◌, ◌≤◌, Ok, List, [], ◌∷◌, ◌++◌, eqb, length, get_or, drop}
use Rattle.refusals.specs.declared.Refusal.TheVariants.{PastTheEnd}
use Rattle.information_frames.specs.declared.Frame.{Frame}
use Rattle.information_frames.specs.Frames.{length_in}
use Rattle.information_frames.specs.Walk.{listed, refused, valid_bit, payload_frames}
use Rattle.information_frames.specs.Answers.{frame_list, nth_frame, data_in}
use Rattle.information_frames.specs.Adding.{adding, Adds}
use Rattle.information_frames.specs.Contents.{Content, contents, new_frame, new_content}
use Rattle.refusals.specs.Numbers.{number_in}

-- the payload fixes the list: its length, its valid bit and its application data do, and no other bit of its header
abbrev pub Fixed : Type 0
Fixed = (p q : List ℕ) → length p ≡ length q → valid_bit p ≡ valid_bit q → drop 8 p ≡ drop 8 q → payload_frames p ≡ payload_frames q

-- the length in the header at byte `at` of the application data
abbrev pub length_at : List ℕ → ℕ → ℕ
length_at p at = length_in (get_or p (at + 8) 0) (get_or p (at + 9) 0)

-- where a frame starts: at byte 0, or directly behind a frame with some data, where two bytes are left for its header
pub data Starts (p : List ℕ) : ℕ → Type 0 where
  first : Starts p 0
  next : {at : ℕ} → Starts p at → 0 < length_at p at → at + (length_at p at + 2) ≤ 422 → Starts p (at + (length_at p at + 2))

-- a frame starts somewhere that is longer, with its header, than what is left of the 424 bytes
pub record RunsPast (p : List ℕ) : Type 0 where
  pub at : ℕ
  pub starts : Starts p at
  pub past : 424 < at + (length_at p at + 2)

-- 11 is given exactly then
abbrev pub PastIs11 : Type 0
PastIs11 =
    (p : List ℕ) → length p ≡ 432 → valid_bit p ≡ 1
    → (RunsPast p → payload_frames p ≡ refused PastTheEnd) × (payload_frames p ≡ refused PastTheEnd → RunsPast p)

-- so a length over 422 is answered 11, wherever a frame starts: its header and its data need more than the 424 bytes
abbrev pub Over422Is11 : Type 0
Over422Is11 =
    (p : List ℕ) (at : ℕ) → length p ≡ 432 → valid_bit p ≡ 1 → Starts p at → 422 < length_at p at → payload_frames p ≡ refused PastTheEnd

-- whether a list has a number
unfoldable pub is_one_of : List ℕ → ℕ → Bool
is_one_of [] k = false
is_one_of (j ∷ js) k = eqb k j || is_one_of js k

-- the numbers of a list; of a frame, and so of its data; of adding
abbrev pub numbers_of_list : List ℕ
numbers_of_list = 0 ∷ 7 ∷ 11 ∷ []

abbrev pub numbers_of_frame : List ℕ
numbers_of_frame = 0 ∷ 7 ∷ 11 ∷ 13 ∷ []

abbrev pub numbers_of_adding : List ℕ
numbers_of_adding = 0 ∷ 7 ∷ 11 ∷ 8 ∷ 9 ∷ []

-- and no other is answered
abbrev pub Numbers : Type 0
Numbers =
    (p : List ℕ) (n kind size : ℕ)
    → (is_one_of numbers_of_list (number_in (frame_list (payload_frames p))) ≡ true)
    × (is_one_of numbers_of_frame (number_in (nth_frame (payload_frames p) n)) ≡ true)
    × (is_one_of numbers_of_adding (number_in (adding (payload_frames p) kind size)) ≡ true)

-- each frame has at least three of the 424 bytes
abbrev pub AtMost141 : Type 0
AtMost141 = (p : List ℕ) (n end : ℕ) → frame_list (payload_frames p) ≡ Ok (record { count = n; end = end }) → n ≤ 141

-- a frame that is handed out lies inside the application data, and its data are as long as it says
abbrev pub Inside : Type 0
Inside =
    (p : List ℕ) (n : ℕ) (f : Frame) → nth_frame (payload_frames p) n ≡ Ok f
    → (length p ≡ 432) × (f.at + (f.length + 2) ≤ 424) × (length (data_in p f) ≡ f.length)

-- and two of them do not overlap: each is behind those before it
abbrev pub Apart : Type 0
Apart =
    (p : List ℕ) (i j : ℕ) (f g : Frame) → i < j → nth_frame (payload_frames p) i ≡ Ok f → nth_frame (payload_frames p) j ≡ Ok g
    → f.at + (f.length + 2) ≤ g.at

-- a frame that was added: the list is the old one with one more at its end, and what the old frames hold is as it was
abbrev pub AddedListed : Type 0
AddedListed =
    (p q : List ℕ) (kind : ℕ) (xs : List ℕ) (fs : List Frame) (end : ℕ) → payload_frames p ≡ listed fs end → Adds p kind xs (Ok tt) q
    → (payload_frames q ≡ listed (fs ++ (new_frame end kind xs ∷ [])) (end + (length xs + 2))) × (contents q ≡ contents p ++ (new_content kind xs ∷ []))

-- frames added to p one after the other, each accepted, leave q
pub data AllAdded : List ℕ → List Content → List ℕ → Type 0 where
  nothing : {p : List ℕ} → AllAdded p [] p
  also : {p q r : List ℕ} {kind : ℕ} {xs : List ℕ} {cs : List Content} → Adds p kind xs (Ok tt) q → AllAdded q cs r → AllAdded p (new_content kind xs ∷ cs) r

-- from a payload with no frame, the frames are those that were added, in order
abbrev pub AllAddedListed : Type 0
AllAddedListed =
    (p q : List ℕ) (cs : List Content) (end : ℕ) → payload_frames p ≡ listed [] end → AllAdded p cs q → contents q ≡ cs
