-- The layout of the seven kinds of release record, one line for each position of the words in front of the
-- variable part.
use Rattle.std.specs.Prelude.{◌≡◌, ℕ, ◌+◌, ◌<◌, ◌^◌, List, [], ◌∷◌, take, drop, Option, Some, None}
use Rattle.vrt_words.specs.Words.{words_of}
use Rattle.vrt_time.specs.Time.{TimeStamp, stamp_of}
use Rattle.sample_binder.specs.declared.reason.Reason.{Reason}
use Rattle.sample_binder.specs.declared.out.Run.{Run}
use Rattle.sample_binder.specs.declared.out.Run.TheVariants.{Bound, Uncertain, Raw}
use Rattle.release_form.specs.Positions.{word, double, quadruple, stamp_at}
use Rattle.sample_binder.specs.Reasons.{number_of, detail_of}
use Rattle.release_form.specs.declared.shown.Shown.{Shown}
use Rattle.release_form.specs.declared.shown.Shown.TheVariants.{Run as ARun, Ack, Refused, Version, End}

-- the kind
abbrev pub kind_of_run : Run → ℕ
kind_of_run (Bound stamp first number moment fields bits) = 1
kind_of_run (Uncertain reason stamp first number moment bits) = 2
kind_of_run (Raw reason stamp pad) = 3

abbrev pub kind_of : Shown → ℕ
kind_of (ARun stream port lost run) = kind_of_run run
kind_of (Ack port) = 4
kind_of (Refused frame port reason detail stamp) = 5
kind_of (Version port) = 6
kind_of (End counts) = 7

-- the bytes in front of the variable part: the kind, the length of what follows, and the fixed positions
abbrev pub front_of_run : Run → ℕ
front_of_run (Bound stamp first number moment fields bits) = 132
front_of_run (Uncertain reason stamp first number moment bits) = 64
front_of_run (Raw reason stamp pad) = 44

abbrev pub front_of : Shown → ℕ
front_of (ARun stream port lost run) = front_of_run run
front_of (Ack port) = 12
front_of (Refused frame port reason detail stamp) = 40
front_of (Version port) = 12
front_of (End counts) = 64

-- a port has 16 bits
pub record IsPortAt (port : ℕ) (bytes : List ℕ) (i : ℕ) : Type 0 where
  pub port_is : port ≡ word bytes i
  pub fits : word bytes i < 2 ^ 16

-- the picoseconds are below a second
pub record IsStampAt (stamp : TimeStamp) (bytes : List ℕ) (i : ℕ) : Type 0 where
  pub stamp_is : stamp ≡ stamp_at bytes i
  pub below : double bytes (i + 1) < 10 ^ 12

pub record IsReasonAt (reason : Reason) (bytes : List ℕ) (i : ℕ) : Type 0 where
  pub number_is : number_of reason ≡ word bytes i
  pub detail_is : detail_of reason ≡ word bytes (i + 1)

-- samples that are read have 16 bits
pub record IsBoundRun (stamp : TimeStamp) (first number moment : ℕ) (fields : List ℕ) (bits : ℕ) (bytes : List ℕ) : Type 0 where
  pub stamp_is : IsStampAt stamp bytes 5
  pub first_is : first ≡ word bytes 8
  pub number_is : number ≡ word bytes 9
  pub moment_is : moment ≡ quadruple bytes 10
  pub fields_are : fields ≡ take 19 (drop 14 (words_of bytes))
  pub sixteen : bits ≡ 16

pub record IsUncertain (reason : Reason) (stamp : TimeStamp) (first number moment bits : ℕ) (bytes : List ℕ) : Type 0 where
  pub reason_is : IsReasonAt reason bytes 5
  pub stamp_is : IsStampAt stamp bytes 7
  pub first_is : first ≡ word bytes 10
  pub number_is : number ≡ word bytes 11
  pub moment_is : moment ≡ quadruple bytes 12
  pub sixteen : bits ≡ 16

pub record IsRaw (reason : Reason) (stamp : TimeStamp) (pad : ℕ) (bytes : List ℕ) : Type 0 where
  pub reason_is : IsReasonAt reason bytes 5
  pub stamp_is : IsStampAt stamp bytes 7
  pub pad_is : pad ≡ word bytes 10

abbrev pub IsRunLaidOut : Run → List ℕ → Type 0
IsRunLaidOut (Bound stamp first number moment fields bits) bytes = IsBoundRun stamp first number moment fields bits bytes
IsRunLaidOut (Uncertain reason stamp first number moment bits) bytes = IsUncertain reason stamp first number moment bits bytes
IsRunLaidOut (Raw reason stamp pad) bytes = IsRaw reason stamp pad bytes

-- the positions that all runs have
pub record IsOfStream (stream port lost : ℕ) (run : Run) (bytes : List ℕ) : Type 0 where
  pub stream_is : stream ≡ word bytes 2
  pub port_is : IsPortAt port bytes 3
  pub lost_is : lost ≡ word bytes 4
  pub run_is : IsRunLaidOut run bytes

-- where there is no stamp, its positions are 0
abbrev pub IsLateStampAt : Option TimeStamp → List ℕ → ℕ → Type 0
IsLateStampAt None bytes i = stamp_at bytes i ≡ stamp_of 0 0
IsLateStampAt (Some stamp) bytes i = IsStampAt stamp bytes i

pub record IsRefusedFrame (frame port reason detail : ℕ) (stamp : Option TimeStamp) (bytes : List ℕ) : Type 0 where
  pub frame_is : frame ≡ double bytes 2
  pub port_is : IsPortAt port bytes 4
  pub reason_is : reason ≡ word bytes 5
  pub detail_is : detail ≡ word bytes 6
  pub stamp_is : IsLateStampAt stamp bytes 7

abbrev pub IsLaidOut : Shown → List ℕ → Type 0
IsLaidOut (ARun stream port lost run) bytes = IsOfStream stream port lost run bytes
IsLaidOut (Ack port) bytes = IsPortAt port bytes 2
IsLaidOut (Refused frame port reason detail stamp) bytes = IsRefusedFrame frame port reason detail stamp bytes
IsLaidOut (Version port) bytes = IsPortAt port bytes 2
IsLaidOut (End counts) bytes =
    counts ≡ double bytes 2 ∷ double bytes 4 ∷ double bytes 6 ∷ double bytes 8 ∷ double bytes 10 ∷ double bytes 12 ∷ double bytes 14 ∷ []
