-- The fields of a frame in the order of layout: where each stands, and its rule.
use Rattle.std.specs.Prelude.{◌≡◌, ℕ, ◌+◌, ◌^◌, ◌<◌, ◌≤◌, List, [], ◌∷◌, length, take, drop, get_or}
use Rattle.vrt_time.specs.Time.{TimeStamp, stamp_of}
use Rattle.replay_form.specs.Numbers.{number_at}
use Rattle.replay_form.specs.declared.frame_field.FrameField.{FrameField}
use Rattle.replay_form.specs.declared.frame_field.FrameField.TheVariants.{Seconds, Picos, Port, Zero, Length, Datagram}

-- where a field begins and ends; the datagram has the length that the frame tells
abbrev pub frame_offset : FrameField → ℕ
frame_offset Seconds = 0
frame_offset Picos = 4
frame_offset Port = 12
frame_offset Zero = 14
frame_offset Length = 16
frame_offset Datagram = 20

abbrev pub frame_size : List ℕ → ℕ
frame_size bytes = 20 + number_at 16 4 bytes

abbrev pub frame_end : FrameField → List ℕ → ℕ
frame_end Seconds bytes = 4
frame_end Picos bytes = 12
frame_end Port bytes = 14
frame_end Zero bytes = 16
frame_end Length bytes = 20
frame_end Datagram bytes = frame_size bytes

-- the fields in order
abbrev pub frame_field : ℕ → FrameField
frame_field index = get_or (Seconds ∷ Picos ∷ Port ∷ Zero ∷ Length ∷ []) index Datagram

-- the picoseconds are below a second, and the moment is not before that of the frame before
pub record ArePicos (last : TimeStamp) (seconds picos : ℕ) : Type 0 where
  pub below : picos < 10 ^ 12
  pub rising : seconds ≡ last.seconds → last.picos ≤ picos

-- the rule of a field, which sees the bytes up to its end and the stamp of the frame before
abbrev pub IsFrameRightIn : TimeStamp → FrameField → List ℕ → Type 0
IsFrameRightIn last Seconds front = last.seconds ≤ number_at 0 4 front
IsFrameRightIn last Picos front = ArePicos last (number_at 0 4 front) (number_at 4 8 front)
IsFrameRightIn last Port front = Unit {0}
IsFrameRightIn last Zero front = number_at 14 2 front ≡ 0
IsFrameRightIn last Length front = number_at 16 4 front ≤ 65535
IsFrameRightIn last Datagram front = Unit {0}

abbrev pub IsFrameRight : TimeStamp → FrameField → List ℕ → Type 0
IsFrameRight last field bytes = IsFrameRightIn last field (take (frame_end field bytes) bytes)

-- all bytes of the field are there, and it is right
pub record IsFrameGood (last : TimeStamp) (field : FrameField) (bytes : List ℕ) : Type 0 where
  pub there : frame_end field bytes ≤ length bytes
  pub right : IsFrameRight last field bytes

-- the first k fields are there and right
abbrev pub AreFrameRight : TimeStamp → List ℕ → ℕ → Type 0
AreFrameRight last bytes k = (i : ℕ) → i < k → IsFrameGood last (frame_field i) bytes

-- so many fields are there and right, and the next one is not all there
pub record IsFrameJudged (last : TimeStamp) (bytes : List ℕ) (judged : ℕ) : Type 0 where
  pub within : judged ≤ 6
  pub right : AreFrameRight last bytes judged
  pub missing : judged < 6 → length bytes < frame_end (frame_field judged) bytes

-- the bytes end inside a frame, or in front of one, and no field that is there is wrong
pub record IsFramePart (last : TimeStamp) (bytes : List ℕ) : Type 0 where
  pub index : ℕ
  pub among : index < 6
  pub before : AreFrameRight last bytes index
  pub missing : length bytes < frame_end (frame_field index) bytes

-- a frame is wrong at this offset, that of its first wrong field
pub record IsFrameWrongAt (last : TimeStamp) (bytes : List ℕ) (offset : ℕ) : Type 0 where
  pub index : ℕ
  pub among : index < 6
  pub before : AreFrameRight last bytes index
  pub there : frame_end (frame_field index) bytes ≤ length bytes
  pub wrong : ¬ IsFrameRight last (frame_field index) bytes
  pub place : offset ≡ frame_offset (frame_field index)

-- the bytes are a whole frame, and no field is wrong
pub record IsWholeFrame (last : TimeStamp) (bytes : List ℕ) : Type 0 where
  pub all : length bytes ≡ frame_size bytes
  pub right : AreFrameRight last bytes 6

-- a received datagram: when it came, on which port, and its bytes
pub record Frame : Type 0 where
  pub stamp : TimeStamp
  pub port : ℕ
  pub datagram : List ℕ

-- what the bytes of a frame say
abbrev pub frame_in : List ℕ → Frame
frame_in bytes = record { stamp = stamp_of (number_at 0 4 bytes) (number_at 4 8 bytes); port = number_at 12 2 bytes; datagram = drop 20 bytes }

-- these bytes, and no others, are such a frame behind one of this stamp
pub record IsFrame (last : TimeStamp) (frame : Frame) (bytes : List ℕ) : Type 0 where
  pub whole : IsWholeFrame last bytes
  pub told : frame ≡ frame_in bytes
