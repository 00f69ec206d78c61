-- What is told of a stretch of samples.
use Rattle.std.specs.Prelude.{◌≡◌, ◌⊎◌, ℕ, ◌<◌, ◌≤◌, true, false, Option, Some, None}
use Rattle.vrt_time.specs.Time.{TimeStamp, moment_of, capture_at}
use Rattle.sample_binder.specs.declared.label.Label.{Label}
use Rattle.sample_binder.specs.declared.sampling.Sampled.{Sampled}
use Rattle.sample_binder.specs.Samples.{rate_in}
use Rattle.sample_binder.specs.Runs.{same_label}

-- so many of the samples were captured before the stamp, the others were not
pub record IsPassed (samples : Sampled) (until : TimeStamp) (count : ℕ) : Type 0 where
  pub within : count ≤ samples.number
  pub before : (m : ℕ) → m < count → capture_at samples.stamp m (rate_in samples.fields) < moment_of until
  pub behind : (m : ℕ) → count ≤ m → m < samples.number → moment_of until ≤ capture_at samples.stamp m (rate_in samples.fields)

abbrev pub IsPassedBy : Sampled → Option TimeStamp → ℕ → Type 0
IsPassedBy samples None count = count ≡ samples.number
IsPassedBy samples (Some until) count = IsPassed samples until count

-- the samples from `first` on, up to `end`, are labelled alike, and the next one is not, if there is one
pub record IsStretch (labels : ℕ → Label) (number first : ℕ) (label : Label) (end : ℕ) : Type 0 where
  pub label_told : label ≡ labels first
  pub some : first < end
  pub within : end ≤ number
  pub alike : (m : ℕ) → first ≤ m → m < end → same_label label (labels m) ≡ true
  pub ends : (end ≡ number) ⊎ (same_label label (labels end) ≡ false)

-- the samples from `from` on, up to `end`, have this label too, and the next one has not, if there is one
pub record GoesOn (labels : ℕ → Label) (number from : ℕ) (label : Label) (end : ℕ) : Type 0 where
  pub later : from ≤ end
  pub within : end ≤ number
  pub alike : (m : ℕ) → from ≤ m → m < end → same_label label (labels m) ≡ true
  pub ends : (end ≡ number) ⊎ (same_label label (labels end) ≡ false)
