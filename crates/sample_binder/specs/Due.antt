-- When a released data packet is due.
use Rattle.std.specs.Prelude.{ℕ, suc, zero, ◌+◌, ◌-◌, ◌&&◌, ◌||◌, nat_le, nat_lt, Bool, true, false, if◌then◌else◌, List, length, take, slice_get, Option, Some, None}
use Rattle.vrt_time.specs.Time.{moment_of}
use Rattle.context_timeline.specs.declared.mark.Mark.{Mark}
use Rattle.context_timeline.specs.declared.mark.Mark.TheVariants as mark
use Rattle.context_timeline.specs.State.{TimelineState, horizon_of}
use Rattle.context_timeline.specs.Marks.{mark_in, is_below}
use Rattle.vrt_fields.specs.declared.limits.Limits.{Limits}
use Rattle.sample_binder.specs.Pending.{Pending}
use Rattle.sample_binder.specs.declared.sampling.Shape.{Shape}
use Rattle.sample_binder.specs.Events.{Event, packets_of, has_ended, line_after}
use Rattle.sample_binder.specs.Samples.{size_in, number_of, captured}

-- whether nothing later can change what is known of a packet whose first sample has a context: its payload does not
-- divide, or its last sample was captured below the horizon
abbrev pub is_closed : TimelineState → Shape → List ℕ → Option ℕ → Bool
is_closed line shape fields None = true
is_closed line shape fields (Some number) = is_below (captured shape fields (number - 1)) (horizon_of line)

-- the first three cases, by the mark of the first sample: it is known that there is no context; or there is one, and the
-- payload does not divide; or there is one, the payload divides, and the last sample is below the horizon
abbrev pub is_known_by : TimelineState → Shape → Mark → Bool
is_known_by line shape mark.Open = false
is_known_by line shape mark.BeforeFirst = true
is_known_by line shape mark.TimelineFull = true
is_known_by line shape (mark.Lost lost) = true
is_known_by line shape (mark.Bound place fields) = is_closed line shape fields (number_of shape (size_in fields))

abbrev pub is_known : TimelineState → Shape → Bool
is_known line shape = is_known_by line shape (mark_in line (moment_of shape.stamp))

-- one of the five cases holds of packet number j, counted from 0, where these events have happened: one of the first three;
-- more packets than may wait were released behind it; the end has come. A packet that was not released has no case.
abbrev pub has_case : Limits → List Event → ℕ → Option Pending → Bool
has_case limits events j None = false
has_case limits events j (Some packet) =
    is_known (line_after limits.kept events) packet.shape || nat_lt (j + limits.pending) (length (packets_of events)) || has_ended events

-- the same after event number e, counted from 0
abbrev pub has_case_after : Limits → List Event → ℕ → ℕ → Bool
has_case_after limits events j e = has_case limits (take (suc e) events) j (slice_get (packets_of (take (suc e) events)) j)

-- the least number below n that passes
abbrev pub first_below : (ℕ → Bool) → ℕ → Option ℕ
first_below passes zero = None
first_below passes (suc n) = elim (first_below passes n) [ Some k ↦ Some k | None ↦ if passes n then Some n else None ]

-- the least number from d on and below n that passes
abbrev pub first_from : (ℕ → Bool) → ℕ → Option ℕ → Option ℕ
first_from passes n None = None
first_from passes n (Some d) = first_below (λ e. nat_le d e && passes e) n

-- of n events, the one from which on packet number j may be due: for the first packet event 0, for each other one the due
-- event of the packet before it, which is the first at which it has a case, from where it may be due itself
abbrev pub may_leave : (ℕ → ℕ → Bool) → ℕ → ℕ → Option ℕ
may_leave passes n zero = Some 0
may_leave passes n (suc j) = first_from (passes j) n (may_leave passes n j)

-- the due event of packet number j, if it is due by now
abbrev pub due : Limits → List Event → ℕ → Option ℕ
due limits events j = may_leave (has_case_after limits events) (length events) (suc j)
