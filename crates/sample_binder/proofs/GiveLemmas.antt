-- What one more output makes of a queue.
use Rattle.std.proofs.Common.{◌≡◌, ◌≢◌, ℕ, suc, zero, ◌+◌, ◌-◌, ◌<◌, ◌≤◌, ◌||◌, ◌==◌, nat_lt, Bool, true, false, cond, List, [], ◌∷◌, ◌++◌, length, drop, map, slice_get, Option, Some, None, IfSome, IfNone, OnSome, IsTrue, ◌↔◌, is_some, refl, sym, ap, ◌∙◌, subst, inl, inr, arith, length-drop}
use Rattle.vrt_time.specs.Time.{moment_of, capture_at}
use Rattle.context_timeline.specs.declared.timed_context.TimedContext.{TimedContext}
use Rattle.context_timeline.specs.declared.mark.Mark.{Mark}
use Rattle.context_timeline.specs.declared.mark.Mark.TheVariants as mark
use Rattle.context_timeline.specs.State.{TimelineState, IsTimelineState, horizon_of}
use Rattle.context_timeline.specs.Marks.{mark_in, mark_below, mark_between, last_not_after, is_below, healed, next_stamp}
use Rattle.sample_binder.specs.declared.give.Leaving.{Leaving}
use Rattle.sample_binder.specs.declared.give.Leaving.TheVariants as leaving
use Rattle.vrt_fields.specs.declared.limits.Limits.{Limits}
use Rattle.sample_binder.specs.declared.out.Given.{Given}
use Rattle.sample_binder.specs.declared.out.Out.{Out}
use Rattle.sample_binder.specs.declared.out.Out.TheVariants as out
use Rattle.sample_binder.specs.Pending.{Pending}
use Rattle.sample_binder.specs.declared.reason.Reason.{Reason}
use Rattle.sample_binder.specs.declared.out.Run.{Run}
use Rattle.sample_binder.specs.declared.sampling.Sampled.{Sampled}
use Rattle.sample_binder.specs.declared.sampling.Shape.{Shape}
use Rattle.sample_binder.proofs.Cases.{tested}
use Rattle.sample_binder.specs.Due.{may_leave, has_case, has_case_after, is_known, is_known_by}
use Rattle.sample_binder.proofs.DueLaws.{may_leave-none, may_leave-next}
use Rattle.sample_binder.specs.Events.{Event, packets_of, has_ended, line_after}
use Rattle.sample_binder.specs.GivenOut.{out_with}
use Rattle.sample_binder.specs.Left.{runs_left, runs_left_of, StartsStretch, IsLeaving, leaving_bound, leaving_by}
use Rattle.sample_binder.specs.Outputs.{open_reason, packet_and_runs, outputs}
use Rattle.sample_binder.proofs.OutputLaws.{first_of, more_wait}
use Rattle.sample_binder.specs.Queue.{State, owed, is_first_due, queue_owes, first_decided, StandsFor, IsState, AreSound}
use Rattle.sample_binder.specs.Runs.{runs_bound, runs_by, runs_of, cut_from, run_at, label_at}
use Rattle.sample_binder.specs.Samples.{rate_in, size_in, number_of}
use Rattle.sample_binder.specs.Sound.{HasSampling}
use Rattle.sample_binder.specs.Steps.{GivesPacket}
use Rattle.sample_binder.proofs.SampleLemmas.{number_positive}
use Rattle.sample_binder.proofs.StateLemmas.{case_last, leaves_some, map_empty, append_empty}
use Rattle.sample_binder.proofs.WholeLemmas.{whole_is_cut}

-- ---- a mark that is bound tells the fields of a kept context

abbrev OfBound : Mark → Type 0
OfBound mark.Open = Unit {0}
OfBound mark.BeforeFirst = Unit {0}
OfBound mark.TimelineFull = Unit {0}
OfBound (mark.Lost lost) = Unit {0}
OfBound (mark.Bound place fields) = HasSampling fields

pair_sound : (place lost : ℕ) (fields : List ℕ) (b : Bool) → HasSampling fields → OfBound (cond b (mark.Bound place fields) (mark.Lost lost))
pair_sound place lost fields true h = h
pair_sound place lost fields false h = tt

between_sound : (place : ℕ) (o p : Option TimedContext) → ((a : TimedContext) → o ≡ Some a → HasSampling a.fields) → OfBound (mark_between place o p)
between_sound place (Some a) (Some b) h = pair_sound place b.lost a.fields (b.lost == 0 || healed a b) (h a refl)
between_sound place (Some a) None h = tt
between_sound place None (Some b) h = tt
between_sound place None None h = tt

before_sound : (b : Bool) → OfBound (cond b mark.TimelineFull mark.BeforeFirst)
before_sound true = tt
before_sound false = tt

below_sound : (line : TimelineState) (o : Option ℕ) → AreSound line.kept → OfBound (mark_below line o)
below_sound line None h = before_sound (nat_lt line.limit line.added)
below_sound line (Some k) h = between_sound (line.added - length line.kept + k) (slice_get line.kept k) (slice_get line.kept (k + 1)) (h.each k)

chosen_sound : (b : Bool) (m : Mark) → OfBound m → OfBound (cond b m mark.Open)
chosen_sound true m h = h
chosen_sound false m h = tt

mark_sound : (line : TimelineState) (t : ℕ) → AreSound line.kept → OfBound (mark_in line t)
mark_sound line t h = chosen_sound (is_below t (horizon_of line)) (mark_below line (last_not_after line.kept t)) (below_sound line (last_not_after line.kept t) h)

-- ---- how a packet leaves is by its runs

-- in one run, or cut
chosen_runs : (line : TimelineState) (why : Reason) (samples : Sampled) (whole : Bool) → (whole ≡ true → runs_left line why (leaving.Whole samples) ≡ runs_left line why (leaving.Cut samples 0))
    → runs_left line why (cond whole (leaving.Whole samples) (leaving.Cut samples 0)) ≡ runs_left line why (leaving.Cut samples 0)
chosen_runs line why samples true h = h refl
chosen_runs line why samples false h = refl

chosen_leaves : (line : TimelineState) (why : Reason) (samples : Sampled) (whole : Bool) → StartsStretch line why samples 0 → IsLeaving line why (cond whole (leaving.Whole samples) (leaving.Cut samples 0))
chosen_leaves line why samples true h = tt
chosen_leaves line why samples false h = h

module _ (line : TimelineState) (why : Reason) (shape : Shape) (fields : List ℕ) (sampling : HasSampling fields) where
  bound_runs : (place : ℕ) (o : Option ℕ) → ((n : ℕ) → o ≡ Some n → 0 < n) → IsTimelineState line → mark_in line (moment_of shape.stamp) ≡ mark.Bound place fields
      → runs_left line why (leaving_bound line shape fields o) ≡ runs_bound line why shape fields o
  bound_runs place None some is_line here = refl
  bound_runs place (Some number) some is_line here =
      let samples : Sampled = record { stamp = shape.stamp; fields = fields; number = number } in
      let all : number - 0 ≡ number = omega arith in
      chosen_runs line why samples (is_below (capture_at shape.stamp (number - 1) (rate_in fields)) (next_stamp line.kept (moment_of shape.stamp)))
      (λ whole. whole_is_cut line why samples place is_line sampling (some number refl) here whole)
      ∙ ap (λ n. map (run_at line why shape.stamp fields) (cut_from (label_at line why shape.stamp fields) number 0 n)) all

  bound_leaves : (o : Option ℕ) → ((n : ℕ) → o ≡ Some n → 0 < n) → IsLeaving line why (leaving_bound line shape fields o)
  bound_leaves None some = tt
  bound_leaves (Some number) some =
      let samples : Sampled = record { stamp = shape.stamp; fields = fields; number = number } in
      chosen_leaves line why samples (is_below (capture_at shape.stamp (number - 1) (rate_in fields)) (next_stamp line.kept (moment_of shape.stamp)))
      (record { sampling = sampling; there = some number refl; start = refl })

by_runs : (line : TimelineState) (why : Reason) (shape : Shape) (m : Mark) → OfBound m → IsTimelineState line → mark_in line (moment_of shape.stamp) ≡ m
    → runs_left line why (leaving_by line shape why m) ≡ runs_by line why shape m
by_runs line why shape mark.Open h is_line here = refl
by_runs line why shape mark.BeforeFirst h is_line here = refl
by_runs line why shape mark.TimelineFull h is_line here = refl
by_runs line why shape (mark.Lost lost) h is_line here = refl
by_runs line why shape (mark.Bound place fields) h is_line here =
    bound_runs line why shape fields h place (number_of shape (size_in fields)) (λ n e. number_positive shape (size_in fields) n (omega (arith, h.some_bits)) e) is_line here

by_leaves : (line : TimelineState) (why : Reason) (shape : Shape) (m : Mark) → OfBound m → IsLeaving line why (leaving_by line shape why m)
by_leaves line why shape mark.Open h = tt
by_leaves line why shape mark.BeforeFirst h = tt
by_leaves line why shape mark.TimelineFull h = tt
by_leaves line why shape (mark.Lost lost) h = tt
by_leaves line why shape (mark.Bound place fields) h =
    bound_leaves line why shape fields h (number_of shape (size_in fields)) (λ n e. number_positive shape (size_in fields) n (omega (arith, h.some_bits)) e)

-- ---- the first packet, where it leaves

same_test : (k f e : Bool) → (k || (f || e)) ≡ (k || f || e)
same_test true f e = refl
same_test false f e = refl

taken_by : (b : Bool) (l m : Leaving) → cond b (Some l) None ≡ Some m → (b ≡ true) × (l ≡ m)
taken_by true l m e = (refl, (cc))
taken_by false l m e = absurd (cc)

not_taken : (b : Bool) (l : Leaving) → cond b (Some l) None ≡ None → b ≡ false
not_taken true l e = absurd (cc)
not_taken false l e = refl

module _ (pending : ℕ) (line : TimelineState) (ended : Bool) where
  abbrev why : Reason
  why = open_reason ended

  -- the first leaves by its runs
  pub first_leaves : (packet : Pending) (rest : List Pending) (now : Leaving) → IsTimelineState line → AreSound line.kept → first_decided pending line ended (packet ∷ rest) ≡ Some now
      → (is_first_due pending line ended packet.shape (length (packet ∷ rest)) ≡ true) × (runs_left line why now ≡ runs_of line why packet.shape) × IsLeaving line why now
  first_leaves packet rest now is_line sound e =
      let m = mark_in line (moment_of packet.shape.stamp) in
      let full = nat_lt pending (length (packet ∷ rest)) in
      let h = taken_by (is_known_by line packet.shape m || (full || ended)) (leaving_by line packet.shape why m) now e in
      let of_bound = mark_sound line (moment_of packet.shape.stamp) sound in (
        sym (same_test (is_known_by line packet.shape m) full ended) ∙ h.0,
        sym (ap (runs_left line why) h.1) ∙ by_runs line why packet.shape m of_bound is_line refl,
        subst (IsLeaving line why) h.1 (by_leaves line why packet.shape m of_bound),
      )

  -- or waits
  pub none_due : (queue : List Pending) → first_decided pending line ended queue ≡ None → queue_owes pending line ended queue ≡ []
  none_due [] e = refl
  none_due (packet ∷ rest) e =
      let m = mark_in line (moment_of packet.shape.stamp) in
      let full = nat_lt pending (length (packet ∷ rest)) in
      let off = not_taken (is_known_by line packet.shape m || (full || ended)) (leaving_by line packet.shape why m) e in
      ap (λ b. cond b (packet_and_runs line why packet ++ queue_owes pending line ended rest) []) (sym (same_test (is_known_by line packet.shape m) full ended) ∙ off)

abbrev pub with_leaving : State → Option Leaving → State
with_leaving old leaving = record { pending = old.pending; line = old.line; queue = old.queue; leaving = leaving; ended = old.ended }

abbrev pub with_queue : State → List Pending → Option Leaving → State
with_queue old queue leaving = record { pending = old.pending; line = old.line; queue = queue; leaving = leaving; ended = old.ended }

-- what is owed goes on behind a run
pub owed-run : (old : State) (given : Run) (rest : Option Leaving) → runs_left_of old.line (open_reason old.ended) old.leaving ≡ given ∷ runs_left_of old.line (open_reason old.ended) rest
    → owed old ≡ out.Run given ∷ owed (with_leaving old rest)
owed-run old given rest e =
    ap (λ (runs : List Run). map out.Run runs ++ queue_owes old.pending old.line old.ended old.queue) e

-- and behind a packet
pub owed-packet : (old : State) (after : List Pending) (leaving : Option Leaving) (given : Out) → IsState old → old.leaving ≡ None
    → GivesPacket old.pending old.line old.ended old.queue after leaving given → owed old ≡ given ∷ owed (with_queue old after leaving)
owed-packet old after leaving given state none h =
    let reason = open_reason old.ended in
    let behind = queue_owes old.pending old.line old.ended after in
    let decided : first_decided old.pending old.line old.ended (h.packet ∷ after) ≡ Some h.now =
    ap (first_decided old.pending old.line old.ended) (sym h.first) ∙ h.decided ∙ h.leaves in
    let f = first_leaves old.pending old.line old.ended h.packet after h.now state.is_line state.sound decided in
    ap (λ (o : Option Leaving). map out.Run (runs_left_of old.line reason o) ++ queue_owes old.pending old.line old.ended old.queue) none
    ∙ ap (queue_owes old.pending old.line old.ended) h.first
    ∙ ap (λ b. cond b (packet_and_runs old.line reason h.packet ++ behind) []) f.0
    ∙ ap (λ (runs : List Run). out.Packet h.packet.buf h.packet.lost ∷ map out.Run runs ++ behind) (sym f.1)
    ∙ ap (λ (o : Option Leaving). out.Packet h.packet.buf h.packet.lost ∷ map out.Run (runs_left_of old.line reason o) ++ behind) (sym h.leaves)
    ∙ ap (λ (x : Out). x ∷ map out.Run (runs_left_of old.line reason leaving) ++ behind) (sym h.packet_given)

drop_next : {X : Type 0} (n : ℕ) (xs : List X) (x : X) (rest : List X) → drop n xs ≡ x ∷ rest → (n + 1 ≤ length xs) × (drop (n + 1) xs ≡ rest)
drop_next n xs x rest e =
    let one : n + 1 ≡ suc n = omega arith in
    (omega (arith, ap length e, length-drop n xs), ap (λ k. drop k xs) one ∙ (first_of n xs x rest e).1)

no_packets : (events : List Event) → length events ≡ 0 → packets_of events ≡ []
no_packets [] e = refl
no_packets (event ∷ events) e = absurd (omega (arith, e))

drop_nil : {X : Type 0} (n : ℕ) → drop {A = X} n [] ≡ []
drop_nil zero = refl
drop_nil (suc n) = refl

module _ (old : State) (limits : Limits) (events : List Event) (taken : ℕ) (h : StandsFor old limits events taken) where
  pub stands-run : (given : Out) (rest : Option Leaving) → owed old ≡ given ∷ owed (with_leaving old rest) → StandsFor (with_leaving old rest) limits events (taken + 1)
  stands-run given rest e =
      let d = drop_next taken (outputs limits events) given (owed (with_leaving old rest)) (h.rest ∙ e) in
      record {
        pending = h.pending;
        line = h.line;
        ended = h.ended;
        left = h.left;
        left_within = h.left_within;
        queue = h.queue;
        since = h.since;
        are_due = h.are_due;
        not_before = h.not_before;
        taken_within = d.0;
        rest = d.1;
      }

  -- the packet that leaves is due
  now_due : (packet : Pending) (rest : List Pending) (n : ℕ) → length events ≡ n → old.queue ≡ packet ∷ rest
      → is_first_due old.pending old.line old.ended packet.shape (length (packet ∷ rest)) ≡ true → may_leave (has_case_after limits events) n (suc h.left) ≡ Some (n - 1)
  now_due packet rest zero e f on =
      let none : packets_of events ≡ [] = no_packets events e in
      absurd (cc (sym (h.queue ∙ ap (drop h.left) none) ∙ f, drop_nil h.left))
  now_due packet rest (suc m) e f on =
      let here = first_of h.left (packets_of events) packet rest (sym h.queue ∙ f) in
      let count : length (packets_of events) ≡ h.left + length (packet ∷ rest) = omega (arith, h.left_within, ap length (sym h.queue ∙ f), length-drop h.left (packets_of events)) in
      let one : suc m - 1 ≡ m = omega arith in
      let next : h.left + 1 ≡ suc h.left = omega arith in
      let line = line_after limits.kept events in
      let on_case : has_case_after limits events h.left m ≡ true =
      case_last limits events h.left m e ∙ ap (has_case limits events h.left) here.0
      ∙ ap (λ b. is_known line packet.shape || b || has_ended events) (ap (λ k. nat_lt (h.left + limits.pending) k) count ∙ more_wait h.left limits.pending (length (packet ∷ rest)))
      ∙ ap (λ p. is_first_due p line (has_ended events) packet.shape (length (packet ∷ rest))) (sym h.pending)
      ∙ ap (λ (l : TimelineState). is_first_due old.pending l (has_ended events) packet.shape (length (packet ∷ rest))) (sym h.line)
      ∙ ap (λ b. is_first_due old.pending old.line b packet.shape (length (packet ∷ rest))) (sym h.ended) ∙ on in
      let before : may_leave (has_case_after limits events) m (suc h.left) ≡ None =
      sym (ap (λ k. may_leave (has_case_after limits events) k (suc h.left)) (ap (λ k. k - 1) e ∙ one)) ∙ sym (ap (may_leave (has_case_after limits events) (length events - 1)) next) ∙ h.not_before in
      let due = sym (ap (λ k. may_leave (has_case_after limits events) k h.left) e) ∙ h.are_due in
      may_leave-next (has_case_after limits events) m h.left h.since before due ∙ ap (λ b. cond b (Some m) None) on_case ∙ ap Some (sym one)

  pub stands-packet : (after : List Pending) (leaving : Option Leaving) (given : Out) → IsState old → owed old ≡ given ∷ owed (with_queue old after leaving)
      → GivesPacket old.pending old.line old.ended old.queue after leaving given → StandsFor (with_queue old after leaving) limits events (taken + 1)
  stands-packet after leaving given state e g =
      let n = length events in
      let d = drop_next taken (outputs limits events) given (owed (with_queue old after leaving)) (h.rest ∙ e) in
      let decided : first_decided old.pending old.line old.ended (g.packet ∷ after) ≡ Some g.now =
      ap (first_decided old.pending old.line old.ended) (sym g.first) ∙ g.decided ∙ g.leaves in
      let f = first_leaves old.pending old.line old.ended g.packet after g.now state.is_line state.sound decided in
      let here = first_of h.left (packets_of events) g.packet after (sym h.queue ∙ g.first) in
      let one : suc (h.left + 1) ≡ h.left + 1 + 1 = omega arith in
      let next : h.left + 1 ≡ suc h.left = omega arith in
      record {
        pending = h.pending;
        line = h.line;
        ended = h.ended;
        left = h.left + 1;
        left_within = omega (arith, h.left_within, ap length (sym h.queue ∙ g.first), length-drop h.left (packets_of events));
        queue = sym here.1 ∙ ap (λ k. drop k (packets_of events)) (sym next);
        since = n - 1;
        are_due = ap (may_leave (has_case_after limits events) n) next ∙ now_due g.packet after n refl g.first f.0;
        not_before = ap (may_leave (has_case_after limits events) (n - 1)) (sym one) ∙ may_leave-none (has_case_after limits events) (n - 1) (h.left + 1) h.not_before;
        taken_within = d.0;
        rest = d.1;
      }

-- ---- what stays true of every queue

pub IsState-packet : (old : State) (after : List Pending) (leaving : Option Leaving) (given : Out) → IsState old
    → GivesPacket old.pending old.line old.ended old.queue after leaving given → IsState (with_queue old after leaving)
IsState-packet old after leaving given h g =
    let decided : first_decided old.pending old.line old.ended (g.packet ∷ after) ≡ Some g.now =
    ap (first_decided old.pending old.line old.ended) (sym g.first) ∙ g.decided ∙ g.leaves in
    let f = first_leaves old.pending old.line old.ended g.packet after g.now h.is_line h.sound decided in
    record {
      room = omega (arith, h.room, ap length g.first);
      is_line = h.is_line;
      sound = h.sound;
      shapes = record { each = λ k p e. h.shapes.each (suc k) p (ap (λ (q : List Pending). slice_get q (suc k)) g.first ∙ e) };
      leaving = subst (λ (o : Option Leaving). IfSome o (IsLeaving old.line (open_reason old.ended))) (sym g.leaves) f.2;
    }

-- whether anything is owed
owes_run : (line : TimelineState) (reason : Reason) (now : Leaving) (behind : List Out) → IsLeaving line reason now → map out.Run (runs_left line reason now) ++ behind ≢ []
owes_run line reason now behind h e = leaves_some line reason now h (map_empty out.Run (runs_left line reason now) (append_empty (map out.Run (runs_left line reason now)) behind e).0)

pub owes-leaving : (old : State) (now : Leaving) → IsState old → old.leaving ≡ Some now → owed old ≢ []
owes-leaving old now h e f =
    let leaves : IsLeaving old.line (open_reason old.ended) now = subst (λ (o : Option Leaving). IfSome o (IsLeaving old.line (open_reason old.ended))) e h.leaving in
    owes_run old.line (open_reason old.ended) now (queue_owes old.pending old.line old.ended old.queue) leaves
    (sym (ap (λ (o : Option Leaving). map out.Run (runs_left_of old.line (open_reason old.ended) o) ++ queue_owes old.pending old.line old.ended old.queue) e) ∙ f)

first_owes : (pending : ℕ) (line : TimelineState) (ended : Bool) (queue : List Pending) (now : Leaving) → IsTimelineState line → AreSound line.kept → first_decided pending line ended queue ≡ Some now → queue_owes pending line ended queue ≢ []
first_owes pending line ended [] now is_line s e f = absurd (cc)
first_owes pending line ended (packet ∷ rest) now is_line s e f =
    let on = (first_leaves pending line ended packet rest now is_line s e).0 in
    absurd (cc (sym (ap (λ b. cond b (packet_and_runs line (open_reason ended) packet ++ queue_owes pending line ended rest) []) on) ∙ f))

pub owes-first : (old : State) (now : Leaving) → IsState old → first_decided old.pending old.line old.ended old.queue ≡ Some now → owed old ≢ []
owes-first old now h e f =
    first_owes old.pending old.line old.ended old.queue now h.is_line h.sound e (append_empty (map out.Run (runs_left_of old.line (open_reason old.ended) old.leaving)) (queue_owes old.pending old.line old.ended old.queue) f).1

pub owes-nothing : (old : State) → old.leaving ≡ None → first_decided old.pending old.line old.ended old.queue ≡ None → owed old ≡ []
owes-nothing old e f =
    ap (λ (o : Option Leaving). map out.Run (runs_left_of old.line (open_reason old.ended) o) ++ queue_owes old.pending old.line old.ended old.queue) e
    ∙ none_due old.pending old.line old.ended old.queue f

-- ---- with the answer that a packet leaves, or none does

pub none_with : (P : Type 0) (o : Option Given) (run : Run) → IfNone o P → IfNone (out_with o run) P
none_with P None run h = h
none_with P (Some given) run h = tt

given-packet : (old : State) (after : List Pending) (leaving : Option Leaving) (result : Option Out) → IsState old → old.leaving ≡ None
    → IfSome result (GivesPacket old.pending old.line old.ended old.queue after leaving) → IfSome result (λ given. owed old ≡ given ∷ owed (with_queue old after leaving))
given-packet old after leaving None s e h = tt
given-packet old after leaving (Some given) s e h = owed-packet old after leaving given s e h

history-packet : (old : State) (after : List Pending) (leaving : Option Leaving) (result : Option Out) → IsState old → old.leaving ≡ None
    → IfSome result (GivesPacket old.pending old.line old.ended old.queue after leaving) → (limits : Limits) (events : List Event) (taken : ℕ) → StandsFor old limits events taken
    → OnSome result (StandsFor (with_queue old after leaving) limits events (taken + 1))
history-packet old after leaving None s e h limits events taken stands = tt
history-packet old after leaving (Some given) s e h limits events taken stands =
    stands-packet old limits events taken stands after leaving given s (owed-packet old after leaving given s e h) h

state-packet : (old : State) (after : List Pending) (leaving : Option Leaving) (result : Option Out) → IsState old
    → IfSome result (GivesPacket old.pending old.line old.ended old.queue after leaving) → IfNone result (after ≡ old.queue) → IfNone result (leaving ≡ None)
    → IsState (with_queue old after leaving)
state-packet old after leaving (Some given) s h e f = IsState-packet old after leaving given s h
state-packet old after leaving None s h e f = record {
  room = omega (arith, s.room, ap length e);
  is_line = s.is_line;
  sound = s.sound;
  shapes = record { each = λ k p g. s.shapes.each k p (sym (ap (λ (q : List Pending). slice_get q k) e) ∙ g) };
  leaving = subst (λ (o : Option Leaving). IfSome o (IsLeaving old.line (open_reason old.ended))) (sym f) tt;
}

pub record IsNext (old : State) (after : List Pending) (leaving : Option Leaving) (result : Option Out) : Type 0 where
  pub given : IfSome result (λ given. owed old ≡ given ∷ owed (with_queue old after leaving))
  pub history : (limits : Limits) (events : List Event) (taken : ℕ) → StandsFor old limits events taken → OnSome result (StandsFor (with_queue old after leaving) limits events (taken + 1))
  pub is_state : IsState (with_queue old after leaving)

pub next-packet : (old : State) (after : List Pending) (leaving : Option Leaving) (result : Option Out) → IsState old → old.leaving ≡ None
    → IfSome result (GivesPacket old.pending old.line old.ended old.queue after leaving) → IfNone result (after ≡ old.queue) → IfNone result (leaving ≡ None)
    → IsNext old after leaving result
next-packet old after leaving result s e h f g = record {
  given = given-packet old after leaving result s e h;
  history = history-packet old after leaving result s e h;
  is_state = state-packet old after leaving result s h f g;
}

pub some_told : (o : Option Leaving) → is_some o ≡ true → (now : Leaving) × (o ≡ Some now)
some_told None e = absurd (cc)
some_told (Some now) e = (now, refl)

none_told : (o : Option Leaving) → is_some o ≡ false → o ≡ None
none_told None e = refl
none_told (Some now) e = absurd (cc)

-- what a test for one that leaves, or for a first one that need not wait, tells
pub owes-told : (old : State) → IsState old → (b : Bool) → b ≡ is_some old.leaving → b ≡ true → (IsTrue b ↔ (owed old ≢ []))
owes-told old h b e on =
    let l = some_told old.leaving (sym e ∙ on) in
    (λ t. owes-leaving old l.0 h l.1, λ f. on)

owes-tested : (old : State) → IsState old → old.leaving ≡ None → (b : Bool) → b ≡ is_some (first_decided old.pending old.line old.ended old.queue) → (IsTrue b ↔ (owed old ≢ []))
owes-tested old h none b e = elim (tested b) [
  | inl on ↦
      let l = some_told (first_decided old.pending old.line old.ended old.queue) (sym e ∙ on) in
      (λ t. owes-first old l.0 h l.1, λ f. on)
  | inr off ↦
      let l = none_told (first_decided old.pending old.line old.ended old.queue) (sym e ∙ off) in
      (λ t. absurd (cc), λ f. absurd (f (owes-nothing old none l)))
]

pub owes-first_told : (old : State) → IsState old → (a : Bool) → a ≡ is_some old.leaving → a ≡ false
    → (b : Bool) (o : Option Leaving) → b ≡ is_some o → o ≡ first_decided old.pending old.line old.ended old.queue → (IsTrue b ↔ (owed old ≢ []))
owes-first_told old h a e off b o f g = owes-tested old h (none_told old.leaving (sym e ∙ off)) b (f ∙ ap is_some g)
