-- The bytes of a frame.
use Rattle.std.specs.Prelude.{◌≡◌, ℕ, ◌≤◌, List, length}
use Rattle.vrt_time.specs.Time.{TimeStamp}
use Rattle.vrt_words.specs.Words.{AreBytes}
use Rattle.replay_form.specs.Numbers.{number_at}

-- bytes that begin with these numbers
pub record IsFrameHead (stamp : TimeStamp) (port size : ℕ) (bytes : List ℕ) : Type 0 where
  pub fit : AreBytes bytes
  pub there : 20 ≤ length bytes
  pub seconds : stamp.seconds ≡ number_at 0 4 bytes
  pub picos : stamp.picos ≡ number_at 4 8 bytes
  pub port_told : port ≡ number_at 12 2 bytes
  pub zero : 0 ≡ number_at 14 2 bytes
  pub size_told : size ≡ number_at 16 4 bytes
