-- The runs that are left of a packet that leaves.
use Rattle.std.specs.Prelude.{◌≡◌, ℕ, ◌-◌, ◌<◌, nat_lt, ◌||◌, Bool, true, if◌then◌else◌, List, [], ◌∷◌, map, Option, Some, None}
use Rattle.context_timeline.specs.declared.mark.Mark.{Mark}
use Rattle.context_timeline.specs.declared.mark.Mark.TheVariants as mark
use Rattle.context_timeline.specs.State.{TimelineState}
use Rattle.context_timeline.specs.Marks.{is_below, next_stamp}
use Rattle.vrt_time.specs.Time.{moment_of, capture_at}
use Rattle.sample_binder.specs.declared.give.Leaving.{Leaving}
use Rattle.sample_binder.specs.declared.give.Leaving.TheVariants as leaving
use Rattle.sample_binder.specs.declared.reason.Reason.{Reason}
use Rattle.sample_binder.specs.declared.reason.Reason.TheVariants as reason
use Rattle.sample_binder.specs.declared.out.Run.{Run}
use Rattle.sample_binder.specs.declared.out.Run.TheVariants as run
use Rattle.sample_binder.specs.declared.sampling.Sampled.{Sampled}
use Rattle.sample_binder.specs.declared.sampling.Shape.{Shape}
use Rattle.sample_binder.specs.Due.{is_closed, is_known_by}
use Rattle.sample_binder.specs.Samples.{rate_in, size_in, number_of}
use Rattle.sample_binder.specs.Runs.{label_at, starts, cut_from, run_at}
use Rattle.sample_binder.specs.Sound.{HasSampling}

abbrev pub runs_left : TimelineState → Reason → Leaving → List Run
runs_left line why (leaving.Raw reason stamp pad) = run.Raw reason stamp pad ∷ []
runs_left line why (leaving.Whole samples) =
    run.Bound samples.stamp 0 samples.number (moment_of samples.stamp) samples.fields (size_in samples.fields) ∷ []
runs_left line why (leaving.Cut samples first) =
    map (run_at line why samples.stamp samples.fields)
    (cut_from (label_at line why samples.stamp samples.fields) samples.number first (samples.number - first))

abbrev pub runs_left_of : TimelineState → Reason → Option Leaving → List Run
runs_left_of line why None = []
runs_left_of line why (Some leaving) = runs_left line why leaving

abbrev pub rest_from : Sampled → ℕ → Option Leaving
rest_from samples first = if nat_lt first samples.number then Some (leaving.Cut samples first) else None

-- a stretch starts at the first that is left
pub record StartsStretch (line : TimelineState) (why : Reason) (samples : Sampled) (first : ℕ) : Type 0 where
  pub sampling : HasSampling samples.fields
  pub there : first < samples.number
  pub start : starts (label_at line why samples.stamp samples.fields) first ≡ true

abbrev pub IsLeaving : TimelineState → Reason → Leaving → Type 0
IsLeaving line why (leaving.Raw reason stamp pad) = Unit {0}
IsLeaving line why (leaving.Whole samples) = Unit {0}
IsLeaving line why (leaving.Cut samples first) = StartsStretch line why samples first

-- the packet as a whole
abbrev pub raw_of : Reason → Shape → Leaving
raw_of reason shape = leaving.Raw reason shape.stamp shape.pad

-- in one run where the last sample was captured before the next context after the first, else cut
abbrev pub leaving_samples : TimelineState → Sampled → Leaving
leaving_samples line samples =
    if is_below (capture_at samples.stamp (samples.number - 1) (rate_in samples.fields)) (next_stamp line.kept (moment_of samples.stamp))
    then leaving.Whole samples else leaving.Cut samples 0

-- how a packet leaves whose first sample has a context, and whose payload has so many samples, if it divides
abbrev pub leaving_bound : TimelineState → Shape → List ℕ → Option ℕ → Leaving
leaving_bound line shape fields None = raw_of reason.Shape shape
leaving_bound line shape fields (Some number) = leaving_samples line (record { stamp = shape.stamp; fields = fields; number = number })

-- how a packet leaves, by the mark of its first sample
abbrev pub leaving_by : TimelineState → Shape → Reason → Mark → Leaving
leaving_by line shape why mark.Open = raw_of why shape
leaving_by line shape why mark.BeforeFirst = raw_of reason.BeforeFirst shape
leaving_by line shape why mark.TimelineFull = raw_of reason.TimelineFull shape
leaving_by line shape why (mark.Lost lost) = raw_of (reason.ContextLost lost) shape
leaving_by line shape why (mark.Bound place fields) = leaving_bound line shape fields (number_of shape (size_in fields))

-- where it need not wait
abbrev pub decided_bound : TimelineState → Shape → Bool → List ℕ → Option ℕ → Option Leaving
decided_bound line shape must fields number =
    if is_closed line shape fields number || must then Some (leaving_bound line shape fields number) else None

abbrev pub decided : TimelineState → Shape → Bool → Reason → Mark → Option Leaving
decided line shape must why mark = if is_known_by line shape mark || must then Some (leaving_by line shape why mark) else None
