-- What a reader of a record knows, and one call of it.
use Rattle.std.specs.Prelude.{◌≡◌, ℕ, ◌+◌, ◌<◌, ◌≤◌, ◌^◌, ◌⊎◌, IsSome, Bool, true, false, if◌then◌else◌, List, [], ◌∷◌, ◌++◌, length, take, drop, Option, Some, None}
use Rattle.vrt_time.specs.Time.{TimeStamp}
use Rattle.vrt_fields.specs.declared.route.Route.{Route}
use Rattle.replay_form.specs.Numbers.{number_at}
use Rattle.replay_form.specs.Head.{IsHead, IsSpelledHead}
use Rattle.replay_form.specs.HeadFields.{IsHeadPart, IsHeadOpen, IsHeadWrongAt}
use Rattle.replay_form.specs.FrameFields.{Frame, frame_in, IsFrame, IsWholeFrame, IsFramePart, IsFrameWrongAt}
use Rattle.replay_form.specs.Record.{first_stamp, last_stamp, IsOpen, IsRecordWrongAt}
use Rattle.replay_form.specs.declared.record_head.RecordHead.{RecordHead}
use Rattle.replay_form.specs.declared.event.Event.{Event}
use Rattle.replay_form.specs.declared.event.Event.TheVariants as events
use Rattle.replay_form.specs.declared.event.RecordFault.{RecordFault}

-- Whether the header has come, and what it says; the stamp of the last frame, and the offset behind it; whether that frame was made
-- whole by the last call; the bytes held, which are what has come of the header or of the next frame, or a whole frame that came in
-- parts; and the fault.
pub record Reading : Type 0 where
  pub started : Bool
  pub head : RecordHead
  pub last : TimeStamp
  pub start : ℕ
  pub whole : Bool
  pub held : List ℕ
  pub fault : Option RecordFault

-- what has come of the header, or of the next frame
abbrev pub begun : Reading → List ℕ
begun reading = if reading.whole then [] else reading.held

-- What is held of a frame that these bytes make whole: none of one that they hold alone;
abbrev pub kept_of : List ℕ → List ℕ → List ℕ
kept_of [] taken = []
kept_of (byte ∷ begun) taken = (byte ∷ begun) ++ taken

-- and the bytes of that frame.
abbrev pub whole_bytes : List ℕ → List ℕ → List ℕ
whole_bytes [] taken = taken
whole_bytes (byte ∷ held) taken = byte ∷ held

-- the frame that is whole, by the bytes that the last call took
abbrev pub held_frame : Reading → List ℕ → Frame
held_frame reading taken = record {
  stamp = reading.last;
  port = number_at 12 2 (whole_bytes reading.held taken);
  datagram = drop 20 (whole_bytes reading.held taken);
}

-- it stands in these bytes, or in those held
abbrev pub IsFrameIn : Reading → List ℕ → Type 0
IsFrameIn reading taken = IsFrame first_stamp (held_frame reading taken) (whole_bytes reading.held taken)

-- all bytes that the reader was given so far, and these frames, are behind what it knows
pub record IsBeginning (reading : Reading) (taken : List ℕ) (frames : List Frame) : Type 0 where
  pub started : reading.started ≡ false
  pub none : frames ≡ []
  pub bytes : taken ≡ begun reading
  pub part : IsHeadPart (begun reading)
  pub start : reading.start + length (begun reading) ≡ length taken

pub record IsGoing (reading : Reading) (taken : List ℕ) (frames : List Frame) : Type 0 where
  pub started : reading.started ≡ true
  pub so_far : IsOpen reading.head frames (begun reading) taken
  pub last : reading.last ≡ last_stamp first_stamp frames
  pub start : reading.start + length (begun reading) ≡ length taken

abbrev pub StandsWith : Option RecordFault → Reading → List ℕ → List Frame → Type 0
StandsWith None reading taken frames = IsBeginning reading taken frames ⊎ IsGoing reading taken frames
StandsWith (Some fault) reading taken frames = IsRecordWrongAt frames taken fault.offset

abbrev pub StandsFor : Reading → List ℕ → List Frame → Type 0
StandsFor reading taken frames = StandsWith reading.fault reading taken frames

-- no bytes were given
pub record IsFresh (reading : Reading) : Type 0 where
  pub started : reading.started ≡ false
  pub whole : reading.whole ≡ false
  pub start : reading.start ≡ 0
  pub held : reading.held ≡ []
  pub fault : reading.fault ≡ None

-- One call, by its event. All bytes of the piece were taken;
pub record IsMore (old : Reading) (piece : List ℕ) (count : ℕ) (new : Reading) : Type 0 where
  pub sound : old.fault ≡ None
  pub all : count ≡ length piece
  pub after : new ≡ record old { whole = false; held = begun old ++ piece }
  pub head_part : old.started ≡ false → IsHeadPart (begun old ++ piece)
  pub frame_part : old.started ≡ true → IsFramePart old.last (begun old ++ piece)

-- or as many as the header has;
pub record IsHeadRead (old : Reading) (piece : List ℕ) (count : ℕ) (new : Reading) : Type 0 where
  pub sound : old.fault ≡ None
  pub few : count ≤ length piece
  pub first : old.started ≡ false
  pub says : IsHead new.head (begun old ++ take count piece)
  pub after : new ≡ record { started = true; head = new.head; last = first_stamp; start = length (begun old ++ take count piece); whole = false; held = []; fault = None }

-- or as many as the frame has.
pub record IsFrameRead (old : Reading) (piece : List ℕ) (count : ℕ) (new : Reading) : Type 0 where
  pub sound : old.fault ≡ None
  pub few : count ≤ length piece
  pub later : old.started ≡ true
  pub whole : IsWholeFrame old.last (begun old ++ take count piece)
  pub after : new ≡ record old {
    last = (frame_in (begun old ++ take count piece)).stamp;
    start = old.start + length (begun old ++ take count piece);
    whole = true;
    held = kept_of (begun old) (take count piece);
  }

abbrev pub IsNextReading : Reading → List ℕ → ℕ → Event → Reading → Type 0
IsNextReading old piece count events.More new = IsMore old piece count new
IsNextReading old piece count events.Head new = IsHeadRead old piece count new
IsNextReading old piece count events.Frame new = IsFrameRead old piece count new

-- A fault stays. A new one is at the first field that is wrong.
pub record IsNewFault (old : Reading) (piece : List ℕ) (offset : ℕ) (new : Reading) : Type 0 where
  pub whole : new.whole ≡ false
  pub fault : new.fault ≡ Some (record { offset = offset })
  pub in_head : old.started ≡ false → IsHeadWrongAt (begun old ++ piece) offset
  pub in_frame : old.started ≡ true → (place : ℕ) × (IsFrameWrongAt old.last (begun old ++ piece) place × (offset ≡ old.start + place))

abbrev pub IsFailed : Option RecordFault → Reading → List ℕ → ℕ → Reading → Type 0
IsFailed (Some fault) old piece offset new = (offset ≡ fault.offset) × (new ≡ old)
IsFailed None old piece offset new = IsNewFault old piece offset new

-- whether the header has come, and what it says, is as before
pub record KeepsHead (old new : Reading) : Type 0 where
  pub started : new.started ≡ old.started
  pub head : new.head ≡ old.head

-- what the reader keeps true, with the number of the header's fields that are judged, and the room for bytes and routes
pub record Keeps (reading : Reading) (judged held_room routes_room : ℕ) (routes : List Route) : Type 0 where
  pub held_fit : 65555 ≤ held_room
  pub no_routes : routes ≡ []
  pub routes_fit : reading.started ≡ false → 256 ≤ routes_room
  pub not_whole : reading.started ≡ false → reading.whole ≡ false
  pub head_open : reading.fault ≡ None → reading.started ≡ false → IsHeadOpen reading.held judged
  pub frame_open : reading.fault ≡ None → reading.started ≡ true → IsFramePart reading.last (begun reading)
  pub spelled : reading.started ≡ true → IsSpelledHead reading.head
  pub idle : IsSome reading.fault → reading.whole ≡ false
  pub small : reading.fault ≡ None → reading.start + length (begun reading) < 2 ^ 63

-- The end of the bytes: the fault that stands, or the number of bytes where they end inside the header or a frame.
abbrev pub IsUnfinished : Option RecordFault → Reading → ℕ → Type 0
IsUnfinished (Some fault) reading offset = offset ≡ fault.offset
IsUnfinished None reading offset = (offset ≡ reading.start + length (begun reading)) × ((reading.started ≡ false) ⊎ (0 < length (begun reading)))

pub record IsAtEnd (reading : Reading) : Type 0 where
  pub sound : reading.fault ≡ None
  pub started : reading.started ≡ true
  pub nothing : begun reading ≡ []

-- the frames after a call that took these bytes
abbrev pub frames_after : Event → List Frame → Reading → List ℕ → List Frame
frames_after events.More frames new taken = frames
frames_after events.Head frames new taken = frames
frames_after events.Frame frames new taken = frames ++ held_frame new taken ∷ []
