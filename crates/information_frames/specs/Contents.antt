-- What the frames of a payload hold, for the claims about adding; and payloads to hold them against.
-- Assumes nothing.
use Rattle.std.specs.Prelude.{ℕ, List, [], ◌∷◌, ◌++◌, map, length, replicate}
use Rattle.information_frames.specs.declared.Frame.{Frame}
use Rattle.information_frames.specs.Walk.{Frames, listed, refused, payload_frames}
use Rattle.information_frames.specs.Answers.{data_in}

-- what a frame holds
pub record Content : Type 0 where
  pub reserved : ℕ
  pub kind : ℕ
  pub bytes : List ℕ

unfoldable pub content_of : List ℕ → Frame → Content
content_of p f = record { reserved = f.reserved; kind = f.kind; bytes = data_in p f }

abbrev pub frames_in : Frames → List Frame
frames_in (listed fs end) = fs
frames_in (refused k) = []

-- what a payload's frames hold, in order
unfoldable pub contents : List ℕ → List Content
contents p = map (content_of p) (frames_in (payload_frames p))

-- a frame as it is added
abbrev pub new_frame : ℕ → ℕ → List ℕ → Frame
new_frame end kind xs = record { at = end; length = length xs; reserved = 0; kind = kind }

abbrev pub new_content : ℕ → List ℕ → Content
new_content kind xs = record { reserved = 0; kind = kind; bytes = xs }

-- a header with the valid bit set and nothing else, the application data, and zeros behind them
abbrev pub payload_with : List ℕ → ℕ → List ℕ
payload_with xs zeros = 0 ∷ 0 ∷ 0 ∷ 0 ∷ 0 ∷ 0 ∷ 32 ∷ 0 ∷ xs ++ replicate zeros 0
