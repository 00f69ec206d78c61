-- What one more event, and one more output, make of a queue.
use Rattle.std.proofs.Common.{◌≡◌, ◌≢◌, ℕ, suc, zero, ◌+◌, ◌-◌, ◌<◌, ◌≤◌, ◌||◌, ◌==◌, not, nat_lt, Bool, true, false, cond, List, [], ◌∷◌, ◌++◌, length, drop, map, get_or, slice_get, Option, Some, None, IfSome, refl, sym, ap, ◌∙◌, subst, arith, length-append, length-drop}
use Rattle.std.proofs.lemmas.Bool.Decides.{nat_tests}
use Rattle.std.proofs.lemmas.List.{append-nil, take_all, drop-append-le, get_or-drop}
use Rattle.std.proofs.Math.Seq.{drop-append_seam}
use Rattle.vrt_words.specs.Words.{bits}
use Rattle.vrt_time.specs.Time.{moment_of}
use Rattle.difi_context.specs.declared.context.ContextRec.{ContextRec}
use Rattle.difi_context.specs.Context.{IsInGrammar}
use Rattle.context_timeline.specs.declared.timed_context.TimedContext.{TimedContext}
use Rattle.context_timeline.specs.State.{TimelineState, state_of, with_context, horizon_of}
use Rattle.context_timeline.proofs.StateLaws.{state_of-push, IsTimelineState-with_context}
use Rattle.sample_binder.specs.declared.label.Label.{Label}
use Rattle.sample_binder.specs.declared.give.Leaving.{Leaving}
use Rattle.sample_binder.specs.declared.give.Leaving.TheVariants as leaving
use Rattle.vrt_fields.specs.declared.limits.Limits.{Limits}
use Rattle.sample_binder.specs.declared.out.Out.TheVariants as out
use Rattle.sample_binder.specs.Pending.{Pending}
use Rattle.sample_binder.specs.declared.reason.Reason.{Reason}
use Rattle.sample_binder.specs.Due.{may_leave, has_case, has_case_after, is_known}
use Rattle.sample_binder.proofs.DueLaws.{may_leave-more, may_leave-next}
use Rattle.sample_binder.specs.Events.{Event, ContextEvent, DataEvent, EndEvent, contexts_of, packets_of, has_ended, line_after}
use Rattle.sample_binder.specs.Left.{runs_left, runs_left_of, IsLeaving}
use Rattle.sample_binder.specs.Outputs.{open_reason, outputs, packet_and_runs}
use Rattle.sample_binder.proofs.OutputLaws.{first_of, more_wait, outputs-more, old_when, new_when, long}
use Rattle.sample_binder.specs.Queue.{State, owed, is_first_due, queue_owes, FirstWaits, StandsFor, IsState, AreSound, IsShape}
use Rattle.sample_binder.specs.Sound.{HasSampling}
use Rattle.sample_binder.specs.Runs.{cut_from, starts, label_at, run_at, runs_of}

-- ---- events at the end of a list

pub contexts_of-append : (xs ys : List Event) → contexts_of (xs ++ ys) ≡ contexts_of xs ++ contexts_of ys
contexts_of-append [] ys = refl
contexts_of-append (ContextEvent context ∷ xs) ys = ap (λ cs. context ∷ cs) (contexts_of-append xs ys)
contexts_of-append (DataEvent packet ∷ xs) ys = contexts_of-append xs ys
contexts_of-append (EndEvent ∷ xs) ys = contexts_of-append xs ys

pub packets_of-append : (xs ys : List Event) → packets_of (xs ++ ys) ≡ packets_of xs ++ packets_of ys
packets_of-append [] ys = refl
packets_of-append (ContextEvent context ∷ xs) ys = packets_of-append xs ys
packets_of-append (DataEvent packet ∷ xs) ys = ap (λ ps. packet ∷ ps) (packets_of-append xs ys)
packets_of-append (EndEvent ∷ xs) ys = packets_of-append xs ys

pub has_ended-append : (xs ys : List Event) → has_ended (xs ++ ys) ≡ (has_ended xs || has_ended ys)
has_ended-append [] ys = refl
has_ended-append (ContextEvent context ∷ xs) ys = has_ended-append xs ys
has_ended-append (DataEvent packet ∷ xs) ys = has_ended-append xs ys
has_ended-append (EndEvent ∷ xs) ys = refl

-- ---- where nothing is owed

pub append_empty : {X : Type 0} (xs ys : List X) → xs ++ ys ≡ [] → (xs ≡ []) × (ys ≡ [])
append_empty [] ys e = (refl, e)
append_empty (x ∷ xs) ys e = absurd (cc)

pub map_empty : {X Y : Type 0} (f : X → Y) (xs : List X) → map f xs ≡ [] → xs ≡ []
map_empty f [] e = refl
map_empty f (x ∷ xs) e = absurd (cc)

cut_some : (labels : ℕ → Label) (number first n : ℕ) → starts labels first ≡ true → 0 < n → cut_from labels number first n ≢ []
cut_some labels number first zero e lt f = absurd (omega arith)
cut_some labels number first (suc n) e lt f =
    absurd (cc)

-- what leaves has a run
pub leaves_some : (line : TimelineState) (why : Reason) (l : Leaving) → IsLeaving line why l → runs_left line why l ≢ []
leaves_some line why (leaving.Raw reason stamp pad) h e = absurd (cc)
leaves_some line why (leaving.Whole samples) h e = absurd (cc)
leaves_some line why (leaving.Cut samples first) h e =
    cut_some (label_at line why samples.stamp samples.fields) samples.number first (samples.number - first) h.start (omega (arith, h.there))
    (map_empty (run_at line why samples.stamp samples.fields) (cut_from (label_at line why samples.stamp samples.fields) samples.number first (samples.number - first)) e)

none_leaves : (line : TimelineState) (why : Reason) (o : Option Leaving) → IfSome o (IsLeaving line why) → runs_left_of line why o ≡ [] → o ≡ None
none_leaves line why None h e = refl
none_leaves line why (Some l) h e = absurd (leaves_some line why l h e)

none_given : {X : Type 0} (b : Bool) (x : X) (xs : List X) → cond b (x ∷ xs) [] ≡ [] → b ≡ false
none_given true x xs e = absurd (cc)
none_given false x xs e = refl

first_waits : (pending : ℕ) (line : TimelineState) (ended : Bool) (packet : Pending) (rest : List Pending) → queue_owes pending line ended (packet ∷ rest) ≡ []
    → is_first_due pending line ended packet.shape (length (packet ∷ rest)) ≡ false
first_waits pending line ended packet rest e =
    none_given (is_first_due pending line ended packet.shape (length (packet ∷ rest))) (out.Packet packet.buf packet.lost)
    (map out.Run (runs_of line (open_reason ended) packet.shape) ++ queue_owes pending line ended rest) e

few_wait : (known full : Bool) (ended : Bool) → (known || full || ended) ≡ false → full ≡ false
few_wait known full ended e = grind arith

not_lt : (a b : ℕ) → nat_lt a b ≡ false → b ≤ a
not_lt a b e = grind (arith, nat_tests)

-- where nothing is owed, no packet leaves, and no more wait than may
pub record IsIdle (state : State) : Type 0 where
  pub none_leaves : state.leaving ≡ None
  pub queue_waits : queue_owes state.pending state.line state.ended state.queue ≡ []
  pub few : length state.queue ≤ state.pending

few_in : (pending : ℕ) (line : TimelineState) (ended : Bool) (queue : List Pending) → queue_owes pending line ended queue ≡ [] → length queue ≤ pending
few_in pending line ended [] e = omega arith
few_in pending line ended (packet ∷ rest) e =
    let off = first_waits pending line ended packet rest e in
    not_lt pending (length (packet ∷ rest)) (few_wait (is_known line packet.shape) (nat_lt pending (length (packet ∷ rest))) ended off)

unknown : (known full ended : Bool) → (known || full || ended) ≡ false → known ≡ false
unknown known full ended e = grind arith

-- where nothing is owed, the first stays the first behind one more, and needs another context
pub first_held : (pending : ℕ) (line : TimelineState) (ended : Bool) (queue : List Pending) (packet : Pending) → queue_owes pending line ended queue ≡ [] → queue ≢ [] → FirstWaits line (queue ++ packet ∷ [])
first_held pending line ended [] packet e some = absurd (some refl)
first_held pending line ended (first ∷ rest) packet e some =
    unknown (is_known line first.shape) (nat_lt pending (length (first ∷ rest))) ended (first_waits pending line ended first rest e)

-- a queue that is not told to be empty is not
pub held_some : (empty : Bool) (n : ℕ) (queue : List Pending) → empty ≡ (n == 0) → n ≡ length queue → not empty ≡ true → queue ≢ []
held_some empty n queue e all some f =
    let none : n ≡ 0 = omega (arith, all, ap (λ (l : List Pending). length l) f) in
    absurd (let told : empty ≡ true = e ∙ ap (λ k. k == 0) none in let off : not true ≡ true = sym (ap not told) ∙ some in cc)

-- the first needs another context, no more wait than may, and the end has not come
first_still : (pending : ℕ) (line : TimelineState) (ended : Bool) (queue : List Pending) → FirstWaits line queue → ended ≡ false → length queue ≤ pending → queue_owes pending line ended queue ≡ []
first_still pending line ended [] waits e few = refl
first_still pending line ended (first ∷ rest) waits e few =
    let full : nat_lt pending (length (first ∷ rest)) ≡ false = grind (arith, nat_tests) in
    let off : is_first_due pending line ended first.shape (length (first ∷ rest)) ≡ false =
    ap (λ k. k || nat_lt pending (length (first ∷ rest)) || ended) waits ∙ ap (λ f. f || ended) full ∙ e in
    ap (λ b. cond b (packet_and_runs line (open_reason ended) first ++ queue_owes pending line ended rest) []) off

pub still_idle : (state : State) → state.leaving ≡ None → FirstWaits state.line state.queue → state.ended ≡ false → length state.queue ≤ state.pending → owed state ≡ []
still_idle state none waits e few =
    ap (λ (o : Option Leaving). map out.Run (runs_left_of state.line (open_reason state.ended) o) ++ queue_owes state.pending state.line state.ended state.queue) none
    ∙ first_still state.pending state.line state.ended state.queue waits e few

pub idle : (state : State) → IsState state → owed state ≡ [] → IsIdle state
idle state h e =
    let runs = runs_left_of state.line (open_reason state.ended) state.leaving in
    let parts = append_empty (map out.Run runs) (queue_owes state.pending state.line state.ended state.queue) e in
    record {
      none_leaves = none_leaves state.line (open_reason state.ended) state.leaving h.leaving (map_empty out.Run runs parts.0);
      queue_waits = parts.1;
      few = few_in state.pending state.line state.ended state.queue parts.1;
    }

-- ---- one more event

-- after these events nothing is left to leave: so no packet that waits is due
pub case_last : (limits : Limits) (events : List Event) (j m : ℕ) → length events ≡ suc m
    → has_case_after limits events j m ≡ has_case limits events j (slice_get (packets_of events) j)
case_last limits events j m e =
    ap (λ (es : List Event). has_case limits es j (slice_get (packets_of es) j)) (take_all (suc m) events (omega arith))

nothing_there : {X : Type 0} (j : ℕ) (xs : List X) → drop j xs ≡ [] → slice_get xs j ≡ None
nothing_there zero [] e = refl
nothing_there zero (x ∷ xs) e = absurd (cc)
nothing_there (suc j) [] e = refl
nothing_there (suc j) (x ∷ xs) e = nothing_there j xs e

-- the packet that waits first has no case
no_case : (limits : Limits) (events : List Event) (j : ℕ) (queue : List Pending) → queue ≡ drop j (packets_of events) → j ≤ length (packets_of events)
    → queue_owes limits.pending (line_after limits.kept events) (has_ended events) queue ≡ [] → has_case limits events j (slice_get (packets_of events) j) ≡ false
no_case limits events j [] e within owes = ap (has_case limits events j) (nothing_there j (packets_of events) (sym e))
no_case limits events j (packet ∷ rest) e within owes =
    let here = first_of j (packets_of events) packet rest (sym e) in
    let line = line_after limits.kept events in
    let ended = has_ended events in
    let count : length (packets_of events) ≡ j + length (packet ∷ rest) = omega (arith, ap length e, length-drop j (packets_of events)) in
    let off = first_waits limits.pending line ended packet rest owes in
    ap (has_case limits events j) here.0
    ∙ ap (λ b. is_known line packet.shape || b || ended) (ap (λ m. nat_lt (j + limits.pending) m) count ∙ more_wait j limits.pending (length (packet ∷ rest)))
    ∙ off

-- so it is not due
not_due : (limits : Limits) (events : List Event) (left since n : ℕ) → n ≡ length events → may_leave (has_case_after limits events) n left ≡ Some since
    → may_leave (has_case_after limits events) (n - 1) (suc left) ≡ None → has_case limits events left (slice_get (packets_of events) left) ≡ false
    → may_leave (has_case_after limits events) n (suc left) ≡ None
not_due limits events left since zero e due before off = before
not_due limits events left since (suc n) e due before off =
    let one_less : suc n - 1 ≡ n = omega arith in
    may_leave-next (has_case_after limits events) n left since (sym (ap (λ m. may_leave (has_case_after limits events) m (suc left)) one_less) ∙ before) due
    ∙ ap (λ b. cond b (Some n) None) (case_last limits events left n (sym e) ∙ off)

all_taken : {X : Type 0} (taken : ℕ) (xs ys : List X) → taken ≤ length xs → drop taken xs ≡ [] → (taken ≡ length xs) × (drop taken (xs ++ ys) ≡ ys)
all_taken taken xs ys within e =
    let all : taken ≡ length xs = omega (arith, ap length e, length-drop taken xs) in
    (all, ap (λ n. drop n (xs ++ ys)) all ∙ drop-append_seam xs ys)

-- where nothing is owed, one more event gives what the packets that wait then owe
pub stands-more : (old new : State) (limits : Limits) (events : List Event) (event : Event) (taken : ℕ) → StandsFor old limits events taken → IsState old → owed old ≡ []
    → new.pending ≡ old.pending → new.line ≡ line_after limits.kept (events ++ event ∷ []) → new.ended ≡ has_ended (events ++ event ∷ [])
    → new.queue ≡ old.queue ++ packets_of (event ∷ []) → new.leaving ≡ old.leaving → StandsFor new limits (events ++ event ∷ []) taken
stands-more old new limits events event taken h state e pending line ended queue leaving =
    let more = events ++ event ∷ [] in
    let n = length events in
    let calm = idle old state e in
    let next : h.left + 1 ≡ suc h.left = omega arith in
    let before : may_leave (has_case_after limits events) (n - 1) (suc h.left) ≡ None = sym (ap (may_leave (has_case_after limits events) (n - 1)) next) ∙ h.not_before in
    let waits : queue_owes limits.pending (line_after limits.kept events) (has_ended events) old.queue ≡ [] =
    ap (λ p. queue_owes p (line_after limits.kept events) (has_ended events) old.queue) (sym h.pending)
    ∙ ap (λ (l : TimelineState). queue_owes old.pending l (has_ended events) old.queue) (sym h.line)
    ∙ ap (λ b. queue_owes old.pending old.line b old.queue) (sym h.ended) ∙ calm.queue_waits in
    let off = no_case limits events h.left old.queue h.queue h.left_within waits in
    let none = not_due limits events h.left h.since n refl h.are_due before off in
    let packets = packets_of-append events (event ∷ []) in
    let grows : length (packets_of events) ≤ length (packets_of more) = omega (arith, ap length packets, length-append (packets_of events) (packets_of (event ∷ []))) in
    let given = outputs-more limits events event h.left h.since h.left_within grows h.are_due none in
    let same_queue : new.queue ≡ drop h.left (packets_of more) =
    queue ∙ ap (λ ps. ps ++ packets_of (event ∷ [])) h.queue ∙ sym (ap (drop h.left) packets ∙ drop-append-le h.left (packets_of events) (packets_of (event ∷ [])) h.left_within) in
    let fresh = queue_owes limits.pending (line_after limits.kept more) (has_ended more) (drop h.left (packets_of more)) in
    let done = all_taken taken (outputs limits events) fresh h.taken_within (h.rest ∙ e) in
    let last : length more - 1 ≡ n = omega (arith, long limits events event) in
    record {
      pending = pending ∙ h.pending;
      line = line;
      ended = ended;
      left = h.left;
      left_within = omega (arith, h.left_within, grows);
      queue = same_queue;
      since = h.since;
      are_due = new_when limits events event h.left ∙ may_leave-more (has_case_after limits more) n h.left h.since (old_when limits events event h.left ∙ h.are_due);
      not_before = ap (λ m. may_leave (has_case_after limits more) m (h.left + 1)) last ∙ ap (may_leave (has_case_after limits more) n) next ∙ old_when limits events event (suc h.left) ∙ none;
      taken_within = omega (arith, h.taken_within, ap length given, length-append (outputs limits events) fresh);
      rest = ap (drop taken) given ∙ done.1
          ∙ ap (λ (q : List Pending). queue_owes limits.pending (line_after limits.kept more) (has_ended more) q) (sym same_queue)
          ∙ ap (λ p. queue_owes p (line_after limits.kept more) (has_ended more) new.queue) (sym (pending ∙ h.pending))
          ∙ ap (λ (l : TimelineState). queue_owes new.pending l (has_ended more) new.queue) (sym line)
          ∙ ap (λ b. queue_owes new.pending new.line b new.queue) (sym ended)
          ∙ ap (λ (o : Option Leaving). map out.Run (runs_left_of new.line (open_reason new.ended) o) ++ queue_owes new.pending new.line new.ended new.queue) (sym (leaving ∙ calm.none_leaves));
    }

or_false : (b : Bool) → b ≡ (b || false)
or_false true = refl
or_false false = refl

or_true : (b : Bool) → true ≡ (b || true)
or_true true = refl
or_true false = refl

abbrev pub after_context : State → TimedContext → State
after_context old context = record { pending = old.pending; line = with_context old.line context; queue = old.queue; leaving = old.leaving; ended = old.ended }

abbrev pub after_data : State → Pending → State
after_data old packet = record { pending = old.pending; line = old.line; queue = old.queue ++ packet ∷ []; leaving = old.leaving; ended = old.ended }

abbrev pub after_end : State → State
after_end old = record { pending = old.pending; line = old.line; queue = old.queue; leaving = old.leaving; ended = true }

module _ (old : State) (limits : Limits) (events : List Event) (taken : ℕ) (h : StandsFor old limits events taken) (state : IsState old) (nothing : owed old ≡ []) where
  pub stands-context : (context : TimedContext) → StandsFor (after_context old context) limits (events ++ ContextEvent context ∷ []) taken
  stands-context context =
      let line : with_context old.line context ≡ line_after limits.kept (events ++ ContextEvent context ∷ []) =
      ap (λ (l : TimelineState). with_context l context) h.line ∙ state_of-push limits.kept (contexts_of events) context
      ∙ ap (state_of limits.kept) (sym (contexts_of-append events (ContextEvent context ∷ []))) in
      stands-more old (after_context old context) limits events (ContextEvent context) taken h state nothing refl line
      (h.ended ∙ or_false (has_ended events) ∙ sym (has_ended-append events (ContextEvent context ∷ []))) (sym (append-nil old.queue)) refl

  pub stands-data : (packet : Pending) → StandsFor (after_data old packet) limits (events ++ DataEvent packet ∷ []) taken
  stands-data packet =
      let same : contexts_of events ≡ contexts_of (events ++ DataEvent packet ∷ []) = sym (append-nil (contexts_of events)) ∙ sym (contexts_of-append events (DataEvent packet ∷ [])) in
      stands-more old (after_data old packet) limits events (DataEvent packet) taken h state nothing refl (h.line ∙ ap (state_of limits.kept) same)
      (h.ended ∙ or_false (has_ended events) ∙ sym (has_ended-append events (DataEvent packet ∷ []))) refl refl

  pub stands-end : StandsFor (after_end old) limits (events ++ EndEvent ∷ []) taken
  stands-end =
      let same : contexts_of events ≡ contexts_of (events ++ EndEvent ∷ []) = sym (append-nil (contexts_of events)) ∙ sym (contexts_of-append events (EndEvent ∷ [])) in
      stands-more old (after_end old) limits events EndEvent taken h state nothing refl (h.line ∙ ap (state_of limits.kept) same)
      (or_true (has_ended events) ∙ sym (has_ended-append events (EndEvent ∷ []))) (sym (append-nil old.queue)) refl

-- ---- what stays true of every queue

slice_get-push : {X : Type 0} (xs : List X) (x : X) (P : X → Type 0) → ((k : ℕ) (y : X) → slice_get xs k ≡ Some y → P y) → P x
    → (k : ℕ) (y : X) → slice_get (xs ++ x ∷ []) k ≡ Some y → P y
slice_get-push [] x P h p zero y e = let same : x ≡ y = cc in subst P same p
slice_get-push [] x P h p (suc k) y e = absurd (cc)
slice_get-push (z ∷ xs) x P h p zero y e = h zero y e
slice_get-push (z ∷ xs) x P h p (suc k) y e = slice_get-push xs x P (λ i w f. h (suc i) w f) p k y e

skipped : {X : Type 0} (m : ℕ) (xs : List X) (k : ℕ) → slice_get (drop m xs) k ≡ slice_get xs (m + k)
skipped zero xs k = let same : k ≡ 0 + k = omega arith in ap (slice_get xs) same
skipped (suc m) [] k = let same : suc (m + k) ≡ suc m + k = omega arith in ap (slice_get []) same
skipped (suc m) (x ∷ xs) k = let same : suc (m + k) ≡ suc m + k = omega arith in skipped m xs k ∙ ap (slice_get (x ∷ xs)) same

sound-more : (limit : ℕ) (kept : List TimedContext) (context : TimedContext) → AreSound kept → HasSampling context.fields → AreSound (drop (length (kept ++ context ∷ []) - limit) (kept ++ context ∷ []))
sound-more limit kept context h s = record {
  each = λ k a e.
      let m = length (kept ++ context ∷ []) - limit in
      let at = skipped m (kept ++ context ∷ []) k in
      slice_get-push kept context (λ (c : TimedContext). HasSampling c.fields) h.each s (m + k) a (sym at ∙ e);
}

no_leaving : (line : TimelineState) (why : Reason) (o : Option Leaving) → o ≡ None → IfSome o (IsLeaving line why)
no_leaving line why o e = subst (λ (o : Option Leaving). IfSome o (IsLeaving line why)) (sym e) tt

module _ (old : State) (state : IsState old) (nothing : owed old ≡ []) where
  pub IsState-context : (context : TimedContext) → HasSampling context.fields → IfSome (horizon_of old.line) (λ horizon. moment_of horizon < moment_of context.stamp)
      → IsState (after_context old context)
  IsState-context context s later =
      let calm = idle old state nothing in
      record {
        room = state.room;
        is_line = IsTimelineState-with_context old.line context state.is_line later;
        sound = sound-more old.line.limit old.line.kept context state.sound s;
        shapes = state.shapes;
        leaving = no_leaving (with_context old.line context) (open_reason old.ended) old.leaving calm.none_leaves;
      }

  pub IsState-data : (packet : Pending) → IsShape packet.shape → IsState (after_data old packet)
  IsState-data packet s =
      let calm = idle old state nothing in
      record {
        room = omega (arith, calm.few, length-append old.queue (packet ∷ []));
        is_line = state.is_line;
        sound = state.sound;
        shapes = record { each = slice_get-push old.queue packet (λ (p : Pending). IsShape p.shape) state.shapes.each s };
        leaving = state.leaving;
      }

-- a context in the grammar has a rate and an item size within their ranges
pub sampling_of : (rec : ContextRec) → IsInGrammar rec → HasSampling rec.fields
sampling_of rec h =
    let words = h.spelled.words in
    let p = h.spelled.packet in
    let at : (k : ℕ) → get_or rec.fields k 0 ≡ get_or words (8 + k) 0 = λ k. ap (λ xs. get_or xs k 0) p.fields ∙ get_or-drop 8 words k 0 in
    let low = h.spelled.are_words 20 in
    let format = ap (λ w. bits w 0 6) (at 17) in
    record {
      least = omega (arith, at 11, at 12, p.rate.least);
      most = omega (arith, at 11, at 12, p.rate.positive, low);
      some_bits = omega (arith, format, p.format_first.at_least_four);
      most_bits = omega (arith, format, p.format_first.at_most_sixteen);
    }
