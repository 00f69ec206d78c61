-- The runs in which a due packet leaves.
use Rattle.std.specs.Prelude.{ℕ, suc, zero, ◌+◌, ◌-◌, ◌==◌, ◌&&◌, not, nat_lt, Bool, true, false, if◌then◌else◌, List, [], ◌∷◌, slice_index, map, Option, Some, None}
use Rattle.vrt_time.specs.Time.{TimeStamp, moment_of, capture_at}
use Rattle.vrt_fields.specs.Field.{place_of}
use Rattle.vrt_fields.specs.declared.field.Field.TheVariants.{Format}
use Rattle.context_timeline.specs.declared.mark.Mark.{Mark}
use Rattle.context_timeline.specs.declared.mark.Mark.TheVariants as mark
use Rattle.context_timeline.specs.State.{TimelineState}
use Rattle.context_timeline.specs.Marks.{mark_in}
use Rattle.sample_binder.specs.declared.label.Label.{Label}
use Rattle.sample_binder.specs.declared.label.Label.TheVariants as label
use Rattle.sample_binder.specs.declared.reason.Reason.{Reason}
use Rattle.sample_binder.specs.declared.reason.Reason.TheVariants as reason
use Rattle.sample_binder.specs.declared.out.Run.{Run}
use Rattle.sample_binder.specs.declared.out.Run.TheVariants as run
use Rattle.sample_binder.specs.declared.sampling.Shape.{Shape}
use Rattle.sample_binder.specs.Due.{first_below}
use Rattle.sample_binder.specs.Samples.{rate_in, size_in, number_of}

-- the sample rates and the payload formats of two contexts are the same
abbrev pub same_sampling : List ℕ → List ℕ → Bool
same_sampling a b =
    rate_in a == rate_in b && slice_index a (place_of Format) == slice_index b (place_of Format)
    && slice_index a (place_of Format + 1) == slice_index b (place_of Format + 1)

-- what is known of a sample of this mark in a packet whose first sample has a context with the fields `first`; where it is
-- open, it is uncertain for the reason for which the packet waits no longer
abbrev pub label_by : List ℕ → Reason → Mark → Label
label_by first why mark.Open = label.Uncertain why
label_by first why mark.BeforeFirst = label.Uncertain reason.BeforeFirst
label_by first why mark.TimelineFull = label.Uncertain reason.TimelineFull
label_by first why (mark.Lost lost) = label.Uncertain (reason.ContextLost lost)
label_by first why (mark.Bound place fields) =
    if same_sampling first fields then label.Bound place fields else label.Uncertain reason.FormatChanged

-- why a sample of this mark is not bound, where it is not
abbrev pub reason_by : Reason → Mark → Reason
reason_by why mark.Open = why
reason_by why mark.BeforeFirst = reason.BeforeFirst
reason_by why mark.TimelineFull = reason.TimelineFull
reason_by why (mark.Lost lost) = reason.ContextLost lost
reason_by why (mark.Bound place fields) = reason.FormatChanged

-- the same reason: where contexts were lost, as many
abbrev pub same_reason : Reason → Reason → Bool
same_reason reason.BeforeFirst reason.BeforeFirst = true
same_reason (reason.ContextLost lost) (reason.ContextLost other) = lost == other
same_reason reason.PendingFull reason.PendingFull = true
same_reason reason.TimelineFull reason.TimelineFull = true
same_reason reason.Ended reason.Ended = true
same_reason reason.FormatChanged reason.FormatChanged = true
same_reason reason.Shape reason.Shape = true
same_reason a b = false

-- bound to the same context, or uncertain for the same reason
abbrev pub same_label : Label → Label → Bool
same_label (label.Bound place fields) (label.Bound other others) = place == other
same_label (label.Uncertain why) (label.Uncertain other) = same_reason why other
same_label a b = false

-- the labels of the samples of a packet
abbrev pub label_at : TimelineState → Reason → TimeStamp → List ℕ → ℕ → Label
label_at line why stamp fields m = label_by fields why (mark_in line (capture_at stamp m (rate_in fields)))

-- a stretch starts at the first sample, and where the label is not that of the sample before
abbrev pub starts : (ℕ → Label) → ℕ → Bool
starts labels zero = true
starts labels (suc m) = not (same_label (labels m) (labels (suc m)))

-- the first start behind m, or the number of samples
abbrev pub or_all : ℕ → Option ℕ → ℕ
or_all number None = number
or_all number (Some k) = k

abbrev pub next_start : (ℕ → Label) → ℕ → ℕ → ℕ
next_start labels number m = or_all number (first_below (λ k. nat_lt m k && starts labels k) number)

-- of the n samples from number m on, which are the last: where a stretch starts, and how many samples it has
abbrev pub cut_from : (ℕ → Label) → ℕ → ℕ → ℕ → List (ℕ × ℕ)
cut_from labels number m zero = []
cut_from labels number m (suc n) =
    if starts labels m then (m, next_start labels number m - m) ∷ cut_from labels number (suc m) n
    else cut_from labels number (suc m) n

-- the longest stretches of equal label, where each starts and how many samples it has
abbrev pub cut : (ℕ → Label) → ℕ → List (ℕ × ℕ)
cut labels number = cut_from labels number 0 number

-- a stretch as a run
abbrev pub run_by : Label → TimeStamp → List ℕ → ℕ × ℕ → Run
run_by (label.Bound place fields) stamp first stretch =
    run.Bound stamp stretch.0 stretch.1 (capture_at stamp stretch.0 (rate_in first)) fields (size_in first)
run_by (label.Uncertain reason) stamp first stretch =
    run.Uncertain reason stamp stretch.0 stretch.1 (capture_at stamp stretch.0 (rate_in first)) (size_in first)

abbrev pub run_at : TimelineState → Reason → TimeStamp → List ℕ → ℕ × ℕ → Run
run_at line why stamp fields stretch = run_by (label_at line why stamp fields stretch.0) stamp fields stretch

-- the whole packet as one run
abbrev pub raw : Reason → Shape → List Run
raw reason shape = run.Raw reason shape.stamp shape.pad ∷ []

-- the runs where the first sample has a context with these fields
abbrev pub runs_bound : TimelineState → Reason → Shape → List ℕ → Option ℕ → List Run
runs_bound line why shape fields None = raw reason.Shape shape
runs_bound line why shape fields (Some number) =
    map (run_at line why shape.stamp fields) (cut (label_at line why shape.stamp fields) number)

-- the runs, by the mark of the first sample
abbrev pub runs_by : TimelineState → Reason → Shape → Mark → List Run
runs_by line why shape mark.Open = raw why shape
runs_by line why shape mark.BeforeFirst = raw reason.BeforeFirst shape
runs_by line why shape mark.TimelineFull = raw reason.TimelineFull shape
runs_by line why shape (mark.Lost lost) = raw (reason.ContextLost lost) shape
runs_by line why shape (mark.Bound place fields) = runs_bound line why shape fields (number_of shape (size_in fields))

abbrev pub runs_of : TimelineState → Reason → Shape → List Run
runs_of line why shape = runs_by line why shape (mark_in line (moment_of shape.stamp))
