-- The definitions at work: what some short lists of events give.
use Rattle.std.specs.Prelude.{◌≡◌, ℕ, ◌+◌, ◌-◌, ◌*◌, ◌/◌, ◌%◌, ◌^◌, Bool, true, false, List, [], ◌∷◌, Some, None}
use Rattle.std.proofs.Common.{refl}
use Rattle.vrt_time.specs.Time.{TimeStamp, stamp_of}
use Rattle.vrt_fields.specs.declared.limits.Limits.{Limits}
use Rattle.sample_binder.specs.declared.out.Out.{Out}
use Rattle.sample_binder.specs.declared.out.Out.TheVariants as out
use Rattle.sample_binder.specs.Pending.{Pending}
use Rattle.sample_binder.specs.declared.reason.Reason.{Reason}
use Rattle.sample_binder.specs.declared.reason.Reason.TheVariants as reason
use Rattle.sample_binder.specs.declared.out.Run.TheVariants as run
use Rattle.sample_binder.specs.Events.{Event, ContextEvent, DataEvent, EndEvent}
use Rattle.sample_binder.specs.Due.{due}
use Rattle.sample_binder.specs.Outputs.{outputs}

-- so many half seconds after 1,700,000,000 s
abbrev at : ℕ → TimeStamp
at n = stamp_of (1700000000 + n / 2) (n % 2 * (5 * 10 ^ 11))

-- the nineteen words: this gain, so many hertz, and items of so many bits
abbrev fields_of : ℕ → ℕ → ℕ → List ℕ
fields_of gain hertz bits =
    0 ∷ 0 ∷ 0 ∷ 0 ∷ 0 ∷ 0 ∷ 0 ∷ 0 ∷ 0 ∷ 0 ∷ gain ∷ 0 ∷ (hertz * 2 ^ 20) ∷ 0 ∷ 0 ∷ 0 ∷ 0 ∷ (0xA0000000 + (bits - 1) * 65) ∷ 0 ∷ []

abbrev context : ℕ → Bool → List ℕ → ℕ → Event
context half changed fields lost = ContextEvent (record { stamp = at half; changed = changed; fields = fields; lost = lost })

-- a packet of so many words, which is told apart by the room of its buffer
abbrev packet : ℕ → ℕ → ℕ → ℕ → Pending
packet name half words pad = record { buf = record { room = name; bytes = [] }; shape = record { stamp = at half; words = words; pad = pad }; lost = 0 }

abbrev data_at : ℕ → ℕ → ℕ → ℕ → Event
data_at name half words pad = DataEvent (packet name half words pad)

abbrev given : ℕ → Out
given name = out.Packet (record { room = name; bytes = [] }) 0

abbrev raw : Reason → ℕ → ℕ → Out
raw reason half pad = out.Run (run.Raw reason (at half) pad)

abbrev limits_of : ℕ → ℕ → Limits
limits_of kept pending = record { data_window = 0; context_window = 0; kept = kept; pending = pending }

-- a packet between two contexts leaves at the second, as one run
between_two : outputs (limits_of 4 8) (context 0 true (fields_of 0 2 16) 0 ∷ data_at 1 0 2 0 ∷ context 2 true (fields_of 0 2 16) 0 ∷ [])
    ≡ given 1 ∷ out.Run (run.Bound (at 0) 0 2 (1700000000 * 10 ^ 12) (fields_of 0 2 16) 16) ∷ []
between_two = refl

-- a context was lost between its neighbours: the packet leaves whole
a_context_lost : outputs (limits_of 4 8)
    (context 0 true (fields_of 0 2 16) 0 ∷ context 2 true (fields_of 0 2 16) 0 ∷ context 6 true (fields_of 0 2 16) 1 ∷ data_at 1 3 1 0 ∷ [])
    ≡ given 1 ∷ raw (reason.ContextLost 1) 3 0 ∷ []
a_context_lost = refl

-- the next one says that nothing changed: it made no difference
a_healed_loss : outputs (limits_of 4 8)
    (context 0 true (fields_of 0 2 16) 0 ∷ context 2 true (fields_of 0 2 16) 0 ∷ context 6 false (fields_of 0 2 16) 1 ∷ data_at 1 3 1 0 ∷ [])
    ≡ given 1 ∷ out.Run (run.Bound (at 3) 0 1 (17000000015 * 10 ^ 11) (fields_of 0 2 16) 16) ∷ []
a_healed_loss = refl

-- another gain, or two lost: it may have
a_loss_with_another_gain : outputs (limits_of 4 8)
    (context 0 true (fields_of 0 2 16) 0 ∷ context 2 true (fields_of 0 2 16) 0 ∷ context 6 false (fields_of 0x600 2 16) 1 ∷ data_at 1 3 1 0 ∷ [])
    ≡ given 1 ∷ raw (reason.ContextLost 1) 3 0 ∷ []
a_loss_with_another_gain = refl

a_loss_of_two : outputs (limits_of 4 8)
    (context 0 true (fields_of 0 2 16) 0 ∷ context 2 true (fields_of 0 2 16) 0 ∷ context 6 false (fields_of 0 2 16) 2 ∷ data_at 1 3 1 0 ∷ [])
    ≡ given 1 ∷ raw (reason.ContextLost 2) 3 0 ∷ []
a_loss_of_two = refl

-- four samples across a context: two runs
across_a_context : outputs (limits_of 4 8)
    (context 0 true (fields_of 0 2 16) 0 ∷ context 2 true (fields_of 0x600 2 16) 0 ∷ context 4 true (fields_of 0 2 16) 0 ∷ data_at 1 0 4 0 ∷ [])
    ≡ given 1 ∷ out.Run (run.Bound (at 0) 0 2 (1700000000 * 10 ^ 12) (fields_of 0 2 16) 16)
    ∷ out.Run (run.Bound (at 0) 2 2 (1700000001 * 10 ^ 12) (fields_of 0x600 2 16) 16) ∷ []
across_a_context = refl

-- the second context has another rate: the samples behind it are uncertain
across_another_rate : outputs (limits_of 4 8)
    (context 0 true (fields_of 0 2 16) 0 ∷ context 2 true (fields_of 0x600 4 16) 0 ∷ context 4 true (fields_of 0 2 16) 0 ∷ data_at 1 0 4 0 ∷ [])
    ≡ given 1 ∷ out.Run (run.Bound (at 0) 0 2 (1700000000 * 10 ^ 12) (fields_of 0 2 16) 16)
    ∷ out.Run (run.Uncertain reason.FormatChanged (at 0) 2 2 (1700000001 * 10 ^ 12) 16) ∷ []
across_another_rate = refl

-- more than two wait: the first leaves; the others at the end
more_than_may_wait : List Event
more_than_may_wait = context 0 true (fields_of 0 2 16) 0 ∷ data_at 1 0 1 0 ∷ data_at 2 2 1 0 ∷ data_at 3 4 1 0 ∷ EndEvent ∷ []

waits_no_longer : outputs (limits_of 4 2) more_than_may_wait
    ≡ given 1 ∷ raw reason.PendingFull 0 0 ∷ given 2 ∷ raw reason.Ended 2 0 ∷ given 3 ∷ raw reason.Ended 4 0 ∷ []
unfolding more_than_may_wait
waits_no_longer = refl

due_at_the_third : (due (limits_of 4 2) more_than_may_wait 0 ≡ Some 3) × (due (limits_of 4 2) more_than_may_wait 1 ≡ Some 4) × (due (limits_of 4 2) more_than_may_wait 2 ≡ Some 4)
unfolding more_than_may_wait
due_at_the_third = (refl, refl, refl)

-- the first context is no longer kept
no_longer_kept : outputs (limits_of 2 8)
    (context 0 true (fields_of 0 2 16) 0 ∷ context 2 true (fields_of 0 2 16) 0 ∷ context 4 true (fields_of 0 2 16) 0 ∷ data_at 1 1 1 0 ∷ [])
    ≡ given 1 ∷ raw reason.TimelineFull 1 0 ∷ []
no_longer_kept = refl

-- before the first context: the packet leaves when that comes, and not before
before_the_first : outputs (limits_of 4 8) (data_at 1 0 1 0 ∷ context 2 true (fields_of 0 2 16) 0 ∷ context 4 true (fields_of 0 2 16) 0 ∷ [])
    ≡ given 1 ∷ raw reason.BeforeFirst 0 0 ∷ []
before_the_first = refl

due_at_the_first : (due (limits_of 4 8) (data_at 1 0 1 0 ∷ context 2 true (fields_of 0 2 16) 0 ∷ []) 0 ≡ Some 1)
    × (due (limits_of 4 8) (data_at 1 0 1 0 ∷ []) 0 ≡ None)
due_at_the_first = (refl, refl)

no_context_at_all : outputs (limits_of 4 8) (data_at 1 0 1 0 ∷ EndEvent ∷ []) ≡ given 1 ∷ raw reason.Ended 0 0 ∷ []
no_context_at_all = refl

-- items of 4 bits: a payload that does not divide, and one that does
does_not_divide : outputs (limits_of 4 8) (context 0 true (fields_of 0 2 4) 0 ∷ data_at 1 0 1 12 ∷ []) ≡ []
does_not_divide = refl

leaves_whole : outputs (limits_of 4 8) (context 0 true (fields_of 0 2 4) 0 ∷ data_at 1 0 1 12 ∷ context 2 true (fields_of 0 2 4) 0 ∷ [])
    ≡ given 1 ∷ raw reason.Shape 0 12 ∷ []
leaves_whole = refl

two_samples_of_four_bits : outputs (limits_of 4 8) (context 0 true (fields_of 0 2 4) 0 ∷ data_at 1 0 1 16 ∷ context 2 true (fields_of 0 2 4) 0 ∷ [])
    ≡ given 1 ∷ out.Run (run.Bound (at 0) 0 2 (1700000000 * 10 ^ 12) (fields_of 0 2 4) 4) ∷ []
two_samples_of_four_bits = refl

-- too many wait while the first mark is known and the last is open: the tail is uncertain
a_tail_that_is_open : outputs (limits_of 4 1)
    (context 0 true (fields_of 0 2 16) 0 ∷ context 2 true (fields_of 0 2 16) 0 ∷ data_at 1 0 4 0 ∷ data_at 2 4 1 0 ∷ [])
    ≡ given 1 ∷ out.Run (run.Bound (at 0) 0 2 (1700000000 * 10 ^ 12) (fields_of 0 2 16) 16)
    ∷ out.Run (run.Uncertain reason.PendingFull (at 0) 2 2 (1700000001 * 10 ^ 12) 16) ∷ []
a_tail_that_is_open = refl
