-- The mark of a moment: which context is in force then, or why none is said to be.
use Rattle.std.specs.Prelude.{ℕ, suc, zero, ◌+◌, ◌-◌, ◌==◌, ◌&&◌, ◌||◌, not, nat_eq, nat_le, nat_lt, Bool, false, if◌then◌else◌, List, [], ◌∷◌, length, slice_get, slice_index, Option, Some, None}
use Rattle.std.specs.Cmp.Lexicographic.{pointwise}
use Rattle.vrt_time.specs.Time.{TimeStamp, moment_of}
use Rattle.context_timeline.specs.declared.timed_context.TimedContext.{TimedContext}
use Rattle.context_timeline.specs.declared.mark.Mark.{Mark}
use Rattle.context_timeline.specs.declared.mark.Mark.TheVariants.{Open, BeforeFirst, TimelineFull, Lost, Bound}
use Rattle.context_timeline.specs.State.{TimelineState, moments, horizon_of}

-- the greatest number below n that passes
abbrev pub last_below : (ℕ → Bool) → ℕ → Option ℕ
last_below passes zero = None
last_below passes (suc n) = if passes n then Some n else last_below passes n

-- where among the kept the last stands whose stamp is not above t
abbrev pub last_not_after : List TimedContext → ℕ → Option ℕ
last_not_after kept t = last_below (λ k. nat_le (slice_index (moments kept) k) t) (length kept)

-- one context was lost between a and b, b says that nothing changed, and each word of their fields is the same
abbrev pub healed : TimedContext → TimedContext → Bool
healed a b = b.lost == 1 && not b.changed && pointwise nat_eq a.fields b.fields

-- between a, the context of this place among all, and b, the next: bound to a where nothing was lost or the loss
-- is healed
abbrev pub mark_of_pair : ℕ → TimedContext → TimedContext → Mark
mark_of_pair place a b = if b.lost == 0 || healed a b then Bound place a.fields else Lost b.lost

-- before all that are kept
abbrev pub mark_before : ℕ → ℕ → Mark
mark_before limit added = if nat_lt limit added then TimelineFull else BeforeFirst

-- a is the last that is not after the moment, and b the next; below the horizon both are there
abbrev pub mark_between : ℕ → Option TimedContext → Option TimedContext → Mark
mark_between place (Some a) (Some b) = mark_of_pair place a b
mark_between place a b = BeforeFirst

-- below the horizon, from where the last stands whose stamp is not above the moment
abbrev pub mark_below : TimelineState → Option ℕ → Mark
mark_below line None = mark_before line.limit line.added
mark_below line (Some k) =
    mark_between (line.added - length line.kept + k) (slice_get line.kept k) (slice_get line.kept (k + 1))

abbrev pub is_below : ℕ → Option TimeStamp → Bool
is_below t None = false
is_below t (Some horizon) = nat_lt t (moment_of horizon)

-- the mark of the moment t
abbrev pub mark_in : TimelineState → ℕ → Mark
mark_in line t = if is_below t (horizon_of line) then mark_below line (last_not_after line.kept t) else Open

-- the stamp of the first context after t
abbrev pub next_stamp : List TimedContext → ℕ → Option TimeStamp
next_stamp [] t = None
next_stamp (context ∷ rest) t = if nat_lt t (moment_of context.stamp) then Some context.stamp else next_stamp rest t
