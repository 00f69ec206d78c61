-- Stamps and moments, and the moment at which a sample was captured.
use Rattle.std.specs.Prelude.{ℕ, ◌+◌, ◌*◌, ◌/◌, ◌%◌, ◌^◌, ◌<◌, List, [], ◌∷◌}

-- whole seconds, and picoseconds after them
pub record TimeStamp : Type 0 where
  pub seconds : ℕ
  pub picos : ℕ

-- the seconds have 32 bits, and the picoseconds are below a second
pub record IsStamp (stamp : TimeStamp) : Type 0 where
  pub seconds_fit : stamp.seconds < 2 ^ 32
  pub picos_below : stamp.picos < 10 ^ 12

abbrev pub stamp_of : ℕ → ℕ → TimeStamp
stamp_of seconds picos = record { seconds = seconds; picos = picos }

-- a word holds so many different numbers, and counts so many of the word behind it
abbrev pub word_base : ℕ
word_base = 2 ^ 32

-- the fraction in the two words of a packet, the high one first
abbrev pub fraction_of : ℕ → ℕ → ℕ
fraction_of high low = high * word_base + low

-- the three words of a stamp: its seconds, and the high and the low word of its fraction
abbrev pub parts_of : TimeStamp → List ℕ
parts_of stamp = stamp.seconds ∷ stamp.picos / word_base ∷ stamp.picos % word_base ∷ []

-- the number of picoseconds since the epoch
abbrev pub moment_of : TimeStamp → ℕ
moment_of stamp = stamp.seconds * 10 ^ 12 + stamp.picos

-- the moment of a sample, counted from 0, of a packet with this stamp; the rate is in units of 2^-20 Hz
abbrev pub capture_at : TimeStamp → ℕ → ℕ → ℕ
capture_at stamp sample rate = moment_of stamp + sample * 10 ^ 12 * 2 ^ 20 / rate
