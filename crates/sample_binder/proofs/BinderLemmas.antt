-- What the calls of a binder make of it.
use Rattle.std.proofs.Common.{◌≡◌, ℕ, ◌+◌, ◌-◌, ◌<◌, ◌≤◌, ◌^◌, ◌||◌, Bool, true, false, cond, List, [], ◌∷◌, ◌++◌, length, take, drop, map, get_or, slice_get, Option, Some, None, Result, Ok, Err, IfSome, OnErr, option_map, refl, sym, ap, ◌∙◌, subst, arith, length-append, append_assoc}
use Rattle.std.proofs.lemmas.List.{append-nil, map-append, length-map, length-take, get_or-take}
use Rattle.std.specs.List.{AllByRecursion}
use Rattle.vrt_words.specs.Buffer.{Buffer}
use Rattle.vrt_time.specs.Time.{TimeStamp, moment_of, fraction_of}
use Rattle.difi_context.specs.Context.{IsInGrammar, IsSpelled}
use Rattle.vrt_words.specs.Words.{words_of}
use Rattle.vrt_header.specs.Profile.{PacketProfile}
use Rattle.vrt_header.specs.Header.{is_size}
use Rattle.vrt_header.specs.Prologue.{IsStamped}
use Rattle.vrt_header.specs.declared.header.Kind.{Kind}
use Rattle.vrt_header.specs.declared.header.Kind.TheVariants.{Data}
use Rattle.vrt_header.proofs.KindLaws.{seven_words, timed_of_kind}
use Rattle.difi_context.specs.declared.context.ContextRec.{ContextRec}
use Rattle.context_timeline.specs.declared.timed_context.TimedContext.{TimedContext}
use Rattle.context_timeline.specs.State.{TimelineState, state_of, horizon_of, stamp_in}
use Rattle.context_timeline.proofs.StateLaws.{state_of-push, horizon_of-state_of}
use Rattle.reorder_window.specs.declared.entry.Entry.{Entry}
use Rattle.reorder_window.specs.State as window
use Rattle.reorder_window.specs.State.{Holding, IsUndrained}
use Rattle.reorder_window.specs.Window.{AreFalling, AreBelow, accepted, number_held, release, in_order, releases, answer}
use Rattle.reorder_window.proofs.WindowLaws.{every-accepted, every-release}
use Rattle.vrt_fields.specs.declared.limits.Limits.{Limits}
use Rattle.sample_binder.specs.Pending.{Pending}
use Rattle.sample_binder.specs.declared.arrive.Turned.{Turned}
use Rattle.sample_binder.specs.Arrivals.{released_list, releases_by, Takes}
use Rattle.sample_binder.specs.Binder.{BinderState, IsBinderState, Follows, AreContextsSeen, ArePacketsSeen, left_events, end_events}
use Rattle.sample_binder.specs.Calls.{Call, ContextCall, DataCall, EndCall, context_arrivals, data_arrivals, context_entry, data_entry, is_told, context_event, data_event, behind, events_by, events_from, events_of, outcome}
use Rattle.sample_binder.specs.Events.{Event}
use Rattle.sample_binder.specs.Given.{IsContextEntry, IsDataEntry, IsDataBytes, IsDataOf, HasDataSize, IsLater}
use Rattle.sample_binder.specs.Queue.{State, owed}
use Rattle.sample_binder.specs.Queue as queue
use Rattle.sample_binder.specs.Released.{released_context, with_released}
use Rattle.sample_binder.proofs.ArrivalLemmas.{accepted-one, behind-append, newest, falling-drop, each-drop, releases-within, handed_back}

-- ---- opening

abbrev opened_state : Limits → State
opened_state limits = record { pending = limits.pending; line = state_of limits.kept []; queue = []; leaving = None; ended = false }

opened_queue : (limits : Limits) → queue.StandsFor (opened_state limits) limits [] 0
opened_queue limits = record {
  pending = refl;
  line = refl;
  ended = refl;
  left = 0;
  left_within = omega arith;
  queue = refl;
  since = 0;
  are_due = refl;
  not_before = refl;
  taken_within = omega arith;
  rest = refl;
}

pub opened : (limits : Limits) (contexts : Holding ContextRec) (packets : Holding Buffer) (state : State) → contexts.size ≡ limits.context_window → packets.size ≡ limits.data_window
    → window.StandsFor contexts [] 0 → window.StandsFor packets [] 0 → state ≡ opened_state limits → Follows limits contexts packets state false [] 0
opened limits contexts packets state c d s t e = record {
  context_size = c;
  data_size = d;
  contexts_drained = 0;
  contexts_stand = s;
  packets_drained = 0;
  packets_stand = t;
  is_told_too = refl;
  undrained = λ h. (refl, refl);
  done = [];
  queue_stands = subst (λ (st : State). queue.StandsFor st limits [] 0) (sym e) (opened_queue limits);
  left = refl;
}

-- ---- calls at the end of a list

pub context_arrivals-append : (xs ys : List Call) → context_arrivals (xs ++ ys) ≡ context_arrivals xs ++ context_arrivals ys
context_arrivals-append [] ys = refl
context_arrivals-append (ContextCall rec ∷ xs) ys = ap (λ more. context_entry rec ∷ more) (context_arrivals-append xs ys)
context_arrivals-append (DataCall buf ∷ xs) ys = context_arrivals-append xs ys
context_arrivals-append (EndCall ∷ xs) ys = context_arrivals-append xs ys

pub data_arrivals-append : (xs ys : List Call) → data_arrivals (xs ++ ys) ≡ data_arrivals xs ++ data_arrivals ys
data_arrivals-append [] ys = refl
data_arrivals-append (ContextCall rec ∷ xs) ys = data_arrivals-append xs ys
data_arrivals-append (DataCall buf ∷ xs) ys = ap (λ more. data_entry buf ∷ more) (data_arrivals-append xs ys)
data_arrivals-append (EndCall ∷ xs) ys = data_arrivals-append xs ys

pub is_told-append : (xs ys : List Call) → is_told (xs ++ ys) ≡ (is_told xs || is_told ys)
is_told-append [] ys = refl
is_told-append (ContextCall rec ∷ xs) ys = is_told-append xs ys
is_told-append (DataCall buf ∷ xs) ys = is_told-append xs ys
is_told-append (EndCall ∷ xs) ys = refl

or_false : (b : Bool) → (b || false) ≡ b
or_false true = refl
or_false false = refl

pub or_true : (b : Bool) → (b || true) ≡ true
or_true true = refl
or_true false = refl

events_from-more : (limits : Limits) (before calls : List Call) (call : Call) → events_from limits before (calls ++ call ∷ []) ≡ events_from limits before calls ++ events_by limits (before ++ calls) call
events_from-more limits before [] call =
    append-nil (events_by limits before call) ∙ ap (λ cs. events_by limits cs call) (sym (append-nil before))
events_from-more limits before (first ∷ calls) call =
    ap (λ es. events_by limits before first ++ es)
    (events_from-more limits (before ++ first ∷ []) calls call ∙ ap (λ cs. events_from limits (before ++ first ∷ []) calls ++ events_by limits cs call) (append_assoc before (first ∷ []) calls))
    ∙ sym (append_assoc (events_by limits before first) (events_from limits (before ++ first ∷ []) calls) (events_by limits (before ++ first ∷ calls) call))

pub events_of-more : (limits : Limits) (calls : List Call) (call : Call) → events_of limits (calls ++ call ∷ []) ≡ events_of limits calls ++ events_by limits calls call
events_of-more limits calls call = events_from-more limits [] calls call

-- ---- the contexts that are released

last_push : {X : Type 0} (xs : List X) (x : X) → slice_get (xs ++ x ∷ []) (length xs) ≡ Some x
last_push [] x = refl
last_push (y ∷ xs) x = last_push xs x

last_of_push : {X : Type 0} (xs : List X) (x : X) → slice_get (xs ++ x ∷ []) (length (xs ++ x ∷ []) - 1) ≡ Some x
last_of_push xs x =
    let same : length (xs ++ x ∷ []) - 1 ≡ length xs = omega (arith, length-append xs (x ∷ [])) in
    ap (slice_get (xs ++ x ∷ [])) same ∙ last_push xs x

-- the stamp of the context that was released last is below one that is released then
above_rest : (stamp : TimeStamp) (rest : List (Entry ContextRec)) → AreBelow (moment_of stamp) rest → AllByRecursion IsContextEntry rest
    → IfSome (option_map (λ context. context.stamp) (slice_get (map released_context (in_order rest)) (length (map released_context (in_order rest)) - 1))) (λ h. moment_of h < moment_of stamp)
above_rest stamp [] below entries = tt
above_rest stamp (y ∷ rest) below entries =
    let last = release y rest in
    let pushed : map released_context (in_order rest ++ last ∷ []) ≡ map released_context (in_order rest) ++ released_context last ∷ [] = map-append released_context (in_order rest) (last ∷ []) in
    let same : stamp_in y.item.prologue.stamp ≡ y.stamp = sym entries.0.stamp in
    subst (λ (cs : List TimedContext). IfSome (option_map (λ context. context.stamp) (slice_get cs (length cs - 1))) (λ h. moment_of h < moment_of stamp)) (sym pushed)
    (subst (λ (o : Option TimedContext). IfSome (option_map (λ context. context.stamp) o) (λ h. moment_of h < moment_of stamp)) (sym (last_of_push (map released_context (in_order rest)) (released_context last)))
    (subst (λ (s : TimeStamp). moment_of s < moment_of stamp) (sym same) below.0))

-- a context that is released may be added to the timeline of those before it
pub later_of : (kept size : ℕ) (arrivals : List (Entry ContextRec)) (drained : ℕ) (before : List (TimeStamp × ℕ × ContextRec)) (given : TimeStamp × ℕ × ContextRec) → 0 < kept
    → AllByRecursion IsContextEntry arrivals → AreFalling (accepted size arrivals) → releases size arrivals drained ≡ before ++ given ∷ [] → IsLater (state_of kept (map released_context before)) given.2
later_of kept size arrivals drained before given some entries falling e =
    let n = number_held size arrivals drained in
    let xs = drop n (accepted size arrivals) in
    let h = newest xs before given e in
    let x = h.0 in
    let rest = h.1 in
    let falls : AreFalling (x ∷ rest) = subst AreFalling h.2 (falling-drop n (accepted size arrivals) falling) in
    let each : AllByRecursion IsContextEntry (x ∷ rest) =
    subst (AllByRecursion IsContextEntry) h.2 (each-drop IsContextEntry n (accepted size arrivals) (every-accepted IsContextEntry size arrivals entries)) in
    let item : x.item ≡ given.2 = ap (λ (r : TimeStamp × ℕ × ContextRec). r.2) h.4 in
    let above = above_rest x.stamp rest falls.0 each.1 in
    let above_before : IfSome (horizon_of (state_of kept (map released_context before))) (λ h. moment_of h < moment_of x.stamp) =
    subst (λ (o : Option TimeStamp). IfSome o (λ h. moment_of h < moment_of x.stamp)) (sym (horizon_of-state_of kept (map released_context before) some))
    (subst (λ (rs : List (TimeStamp × ℕ × ContextRec)). IfSome (option_map (λ context. context.stamp) (slice_get (map released_context rs) (length (map released_context rs) - 1))) (λ h. moment_of h < moment_of x.stamp)) h.3 above) in
    let stamp : x.stamp ≡ stamp_in given.2.prologue.stamp = each.0.stamp ∙ ap (λ (r : ContextRec). stamp_in r.prologue.stamp) item in
    record {
      grammar = subst IsInGrammar item each.0.grammar;
      above = subst (λ (s : TimeStamp). IfSome (horizon_of (state_of kept (map released_context before))) (λ h. moment_of h < moment_of s)) stamp above_before;
    }

-- and the timeline is then that of all
pub line_with : (kept : ℕ) (before : List (TimeStamp × ℕ × ContextRec)) (released : Option (TimeStamp × ℕ × ContextRec))
    → with_released (state_of kept (map released_context before)) released ≡ state_of kept (map released_context (before ++ released_list released))
line_with kept before None = ap (λ rs. state_of kept (map released_context rs)) (sym (append-nil before))
line_with kept before (Some given) =
    state_of-push kept (map released_context before) (released_context given) ∙ ap (state_of kept) (sym (map-append released_context before (given ∷ [])))

every-push : {X : Type 0} (P : X → Type 0) (xs : List X) (x : X) → AllByRecursion P xs → P x → AllByRecursion P (xs ++ x ∷ [])
every-push P [] x h p = (p, tt)
every-push P (y ∷ xs) x h p = (h.0, every-push P xs x h.1 p)

-- no more contexts were added than were taken
pub added_within : (kept given : ℕ) (holding : Holding ContextRec) (line : TimelineState) (told : Bool) → AreContextsSeen kept given holding line told → line.added ≤ given
added_within kept given holding line told h =
    let rs = releases holding.size h.arrivals h.drained in
    omega (arith, ap (λ (l : TimelineState). l.added) h.line_is, length-map rs released_context, releases-within holding.size h.arrivals h.drained, h.few)

-- ---- an arrival

seen_now : {T : Type 0} (holding : Holding T) (arrivals : List (Entry T)) (drained : ℕ) (told : Bool) → window.StandsFor holding arrivals drained → (told ≡ false → drained ≡ 0) → told ≡ false
    → window.StandsFor holding arrivals 0
seen_now holding arrivals drained told s none off = subst (λ d. window.StandsFor holding arrivals d) (none off) s

err_same : {R E : Type 0} (result : Result R E) (e : E) (P : Type 0) → result ≡ Err e → OnErr result P → P
err_same (Ok r) e P f h = absurd (cc)
err_same (Err d) e P f h = h

module _ (same : ContextRec → ContextRec → Bool) (kept given : ℕ) (old new : Holding ContextRec) (line : TimelineState) (told : Bool) (rec : ContextRec)
    (result : Result (Option (TimeStamp × ℕ × ContextRec)) (Turned × ContextRec)) (seen : AreContextsSeen kept given old line told) (off : told ≡ false)
    (takes : (arrivals : List (Entry ContextRec)) → window.StandsFor old arrivals 0 → Takes same old new arrivals (context_entry rec) result) (size : new.size ≡ old.size)
    (grammar : IsInGrammar rec) where
  context_taken : Takes same old new seen.arrivals (context_entry rec) result
  context_taken = takes seen.arrivals (seen_now old seen.arrivals seen.drained told seen.stands seen.undrained off)

  line_now : line ≡ state_of kept (map released_context (releases old.size seen.arrivals 0))
  line_now = seen.line_is ∙ ap (λ d. state_of kept (map released_context (releases old.size seen.arrivals d))) (seen.undrained off)

  context_entries : AllByRecursion IsContextEntry (seen.arrivals ++ context_entry rec ∷ [])
  context_entries = every-push IsContextEntry seen.arrivals (context_entry rec) seen.entries (record { stamp = refl; grammar = grammar })

  given_by : (released : Option (TimeStamp × ℕ × ContextRec)) → result ≡ Ok released
      → releases old.size (seen.arrivals ++ context_entry rec ∷ []) 0 ≡ releases old.size seen.arrivals 0 ++ released_list released
  given_by released e =
      context_taken.given ∙ ap (λ (r : Result (Option (TimeStamp × ℕ × ContextRec)) (Turned × ContextRec)). releases old.size seen.arrivals 0 ++ releases_by r) e

  later_some : 0 < kept → ((n : ℕ) (arrivals : List (Entry ContextRec)) → AreFalling (accepted n arrivals)) → (released : Option (TimeStamp × ℕ × ContextRec))
      → releases old.size (seen.arrivals ++ context_entry rec ∷ []) 0 ≡ releases old.size seen.arrivals 0 ++ released_list released → IfSome released (λ r. IsLater line r.2)
  later_some some falling None e = tt
  later_some some falling (Some r) e =
      subst (λ (l : TimelineState). IsLater l r.2) (sym line_now)
      (later_of kept old.size (seen.arrivals ++ context_entry rec ∷ []) 0 (releases old.size seen.arrivals 0) r some context_entries (falling old.size (seen.arrivals ++ context_entry rec ∷ [])) e)

  -- the context that it releases may be added
  pub later_released : 0 < kept → ((n : ℕ) (arrivals : List (Entry ContextRec)) → AreFalling (accepted n arrivals)) → (released : Option (TimeStamp × ℕ × ContextRec)) → result ≡ Ok released
      → IfSome released (λ r. IsLater line r.2)
  later_released some falling released e = later_some some falling released (given_by released e)

  -- what stays true where it is taken
  pub seen_context : (released : Option (TimeStamp × ℕ × ContextRec)) → result ≡ Ok released → AreContextsSeen kept (given + 1) new (with_released line released) told
  seen_context released e =
      let all = seen.arrivals ++ context_entry rec ∷ [] in
      record {
        arrivals = all;
        drained = 0;
        stands = context_taken.stands;
        undrained = λ h. refl;
        entries = context_entries;
        line_is = ap (λ (l : TimelineState). with_released l released) line_now ∙ line_with kept (releases old.size seen.arrivals 0) released
            ∙ ap (λ rs. state_of kept (map released_context rs)) (sym (given_by released e)) ∙ ap (λ n. state_of kept (map released_context (releases n all 0))) (sym size);
        few = omega (arith, seen.few, accepted-one old.size seen.arrivals (context_entry rec), ap (λ n. length (accepted n all)) size);
      }

  -- where it is turned away, nothing has changed
  pub turned_context : (e : Turned × ContextRec) → result ≡ Err e → new ≡ old
  turned_context e f = err_same result e (new ≡ old) f context_taken.unchanged

-- the calls with this one
module _ (same : ContextRec → ContextRec → Bool) (limits : Limits) (old new : Holding ContextRec) (packets : Holding Buffer) (state after : State) (told : Bool) (rec : ContextRec)
    (result : Result (Option (TimeStamp × ℕ × ContextRec)) (Turned × ContextRec)) (off : told ≡ false)
    (takes : (arrivals : List (Entry ContextRec)) → window.StandsFor old arrivals 0 → Takes same old new arrivals (context_entry rec) result) (size : new.size ≡ old.size)
    (calls : List Call) (taken : ℕ) (h : Follows limits old packets state told calls taken) where
  calls_taken : Takes same old new (context_arrivals calls) (context_entry rec) result
  calls_taken = takes (context_arrivals calls) (seen_now old (context_arrivals calls) h.contexts_drained told h.contexts_stand (λ e. (h.undrained e).0) off)

  -- the answer is the one that is defined
  pub answer_context : result ≡ outcome (answer same limits.context_window (context_arrivals calls) (context_entry rec))
  answer_context = calls_taken.answered ∙ ap (λ n. outcome (answer same n (context_arrivals calls) (context_entry rec))) h.context_size

  pub follows_context : (rs : List (TimeStamp × ℕ × ContextRec)) → releases_by result ≡ rs
      → ((events : List Event) → queue.StandsFor state limits events taken → queue.StandsFor after limits (events ++ map context_event rs) taken)
      → Follows limits new packets after told (calls ++ ContextCall rec ∷ []) taken
  follows_context rs e history =
      let more = calls ++ ContextCall rec ∷ [] in
      let arrivals = context_arrivals-append calls (ContextCall rec ∷ []) in
      let data_same : data_arrivals calls ≡ data_arrivals more = sym (append-nil (data_arrivals calls)) ∙ sym (data_arrivals-append calls (ContextCall rec ∷ [])) in
      let told_same : is_told more ≡ is_told calls = is_told-append calls (ContextCall rec ∷ []) ∙ or_false (is_told calls) in
      let untold : is_told calls ≡ false = sym h.is_told_too ∙ off in
      let before = releases limits.context_window (context_arrivals calls) 0 in
      let gains : releases limits.context_window (context_arrivals calls ++ context_entry rec ∷ []) 0 ≡ before ++ rs =
      ap (λ n. releases n (context_arrivals calls ++ context_entry rec ∷ []) 0) (sym h.context_size) ∙ calls_taken.given
      ∙ ap (λ xs. releases old.size (context_arrivals calls) 0 ++ xs) e ∙ ap (λ n. releases n (context_arrivals calls) 0 ++ rs) h.context_size in
      let event : events_by limits calls (ContextCall rec) ≡ map context_event rs =
      ap (λ xs. map context_event (behind before xs)) gains ∙ ap (map context_event) (behind-append before rs) in
      let none : (cs : List Call) (c d : ℕ) (ended : Bool) → is_told cs ≡ false → left_events limits cs c d ended ≡ [] =
      λ cs c d ended f. ap (λ b. cond b (cond ended [] (end_events limits cs c d)) []) f in
      let done_is : h.done ≡ events_of limits calls =
      sym (append-nil h.done) ∙ ap (λ xs. h.done ++ xs) (sym (none calls h.contexts_drained h.packets_drained state.ended untold)) ∙ h.left in
      record {
        context_size = size ∙ h.context_size;
        data_size = h.data_size;
        contexts_drained = 0;
        contexts_stand = subst (λ (xs : List (Entry ContextRec)). window.StandsFor new xs 0) (sym arrivals) calls_taken.stands;
        packets_drained = h.packets_drained;
        packets_stand = subst (λ (xs : List (Entry Buffer)). window.StandsFor packets xs h.packets_drained) data_same h.packets_stand;
        is_told_too = h.is_told_too ∙ sym told_same;
        undrained = λ f. (refl, (h.undrained f).1);
        done = h.done ++ map context_event rs;
        queue_stands = history h.done h.queue_stands;
        left = ap (λ xs. (h.done ++ map context_event rs) ++ xs) (none more 0 h.packets_drained after.ended (told_same ∙ untold)) ∙ append-nil (h.done ++ map context_event rs)
            ∙ ap (λ xs. xs ++ map context_event rs) done_is ∙ ap (λ xs. events_of limits calls ++ xs) (sym event) ∙ sym (events_of-more limits calls (ContextCall rec));
      }

-- ---- what is true of every binder

not_both : (b : Bool) (P : Type 0) → b ≡ false → b ≡ true → P
not_both b P e f = absurd (cc)

pub bound_context : (old : BinderState) → IsBinderState old → old.told ≡ false → old.given < 2 ^ 63 → (new : Holding ContextRec) (state : State) (released : Option (TimeStamp × ℕ × ContextRec))
    → state ≡ record { pending = old.state.pending; line = with_released old.state.line released; queue = old.state.queue; leaving = old.state.leaving; ended = old.state.ended }
    → new.size ≡ old.contexts.size → AreContextsSeen old.limits.kept (old.given + 1) new (with_released old.state.line released) old.told
    → IsBinderState (record { profile = old.profile; limits = old.limits; contexts = new; packets = old.packets; state = state; given = old.given + 1; told = old.told })
bound_context old h off few new state released e size seen = record {
  limits = h.limits;
  context_size = size ∙ h.context_size;
  data_size = h.data_size;
  pending = ap (λ (s : State). s.pending) e ∙ h.pending;
  few = omega arith;
  seen = record { contexts_seen = subst (λ (l : TimelineState). AreContextsSeen old.limits.kept (old.given + 1) new l old.told) (sym (ap (λ (s : State). s.line) e)) seen; packets_seen = h.seen.packets_seen };
  running = λ f. ap (λ (s : State). s.ended) e ∙ h.running f;
  at_rest = λ f g. not_both old.told (state.ended ≡ true) off f;
}

pub bound_data : (old : BinderState) → IsBinderState old → old.told ≡ false → old.given < 2 ^ 63 → (new : Holding Buffer) (state : State) (queue : List Pending)
    → state ≡ record { pending = old.state.pending; line = old.state.line; queue = queue; leaving = old.state.leaving; ended = old.state.ended }
    → new.size ≡ old.packets.size → ArePacketsSeen new old.told
    → IsBinderState (record { profile = old.profile; limits = old.limits; contexts = old.contexts; packets = new; state = state; given = old.given + 1; told = old.told })
bound_data old h off few new state queue e size seen =
    let s = h.seen.contexts_seen in
    let contexts : AreContextsSeen old.limits.kept (old.given + 1) old.contexts old.state.line old.told =
    record { arrivals = s.arrivals; drained = s.drained; stands = s.stands; undrained = s.undrained; entries = s.entries; line_is = s.line_is; few = omega (arith, s.few) } in
    record {
      limits = h.limits;
      context_size = h.context_size;
      data_size = size ∙ h.data_size;
      pending = ap (λ (s : State). s.pending) e ∙ h.pending;
      few = omega arith;
      seen = record { contexts_seen = subst (λ (l : TimelineState). AreContextsSeen old.limits.kept (old.given + 1) old.contexts l old.told) (sym (ap (λ (s : State). s.line) e)) contexts; packets_seen = seen };
      running = λ f. ap (λ (s : State). s.ended) e ∙ h.running f;
      at_rest = λ f g. not_both old.told (state.ended ≡ true) off f;
    }

pub grammar_of : (rec : ContextRec) (profile : PacketProfile) → IsSpelled profile rec → IsInGrammar rec
grammar_of rec profile h = record { profile = profile; spelled = h }

abbrev pub same_but : PacketProfile → Limits → Holding ContextRec → Holding Buffer → State → ℕ → Bool → BinderState
same_but profile limits contexts packets state given told =
    record { profile = profile; limits = limits; contexts = contexts; packets = packets; state = state; given = given; told = told }

-- ---- data packets

size_told : (kind : Kind) (timed : Bool) (size : ℕ) → is_size kind timed size ≡ true → kind ≡ Data → size ≤ 16376
size_told Data timed size h e = grind arith
size_told kind timed size h e = absurd (cc)

size_least : (kind : Kind) (timed : Bool) (size : ℕ) → is_size kind timed size ≡ true → kind ≡ Data → 8 ≤ size
size_least Data timed size h e = grind arith
size_least kind timed size h e = absurd (cc)

-- how long it is
pub data_size : (profile : PacketProfile) (bytes : List ℕ) → IsDataOf profile bytes → HasDataSize bytes
data_size profile bytes h =
    let p = h.packet.prologue in
    let d = h.datagram.packet in
    record {
      whole = h.datagram.whole;
      least = omega (arith, d.size, size_least p.header.kind p.header.timed p.header.size d.prologue.prologue.header.size_allowed d.prologue.kind);
      most = omega (arith, d.size, size_told p.header.kind p.header.timed p.header.size d.prologue.prologue.header.size_allowed d.prologue.kind);
    }

stamped : (timed : Bool) (stamp : Option TimeStamp) (words : List ℕ) → IsStamped timed stamp words → timed ≡ true → fraction_of (get_or words 5 0) (get_or words 6 0) < 10 ^ 12
stamped true stamp words h e = h.0
stamped false stamp words h e = absurd (cc)

-- what is read of a data packet is there
pub data_bytes : (profile : PacketProfile) (bytes : List ℕ) → IsDataOf profile bytes → IsDataBytes bytes
data_bytes profile bytes h =
    let words = words_of bytes in
    let p = h.packet.prologue in
    let d = h.datagram.packet in
    let seven : length (take 7 words) ≡ 7 = seven_words profile Data p (take 7 words) refl d.prologue in
    let timed = timed_of_kind profile Data p (take 7 words) refl d.prologue in
    let fraction = stamped p.header.timed p.stamp (take 7 words) d.prologue.prologue.stamp timed in
    record {
      enough = omega (arith, length-take 7 words);
      most = omega (arith, d.size, size_told p.header.kind p.header.timed p.header.size d.prologue.prologue.header.size_allowed d.prologue.kind);
      fraction = omega (arith, get_or-take 7 words 5 0 (omega arith), get_or-take 7 words 6 0 (omega arith));
    }

-- the last of the items is so too
last_one : {X : Type 0} (P : X → Type 0) (xs : List X) (x : X) → AllByRecursion P (xs ++ x ∷ []) → P x
last_one P [] x h = h.0
last_one P (y ∷ xs) x h = last_one P xs x h.1

fronts_of : (arrivals : List (Entry Buffer)) → AllByRecursion IsDataEntry arrivals → AllByRecursion (λ (a : Entry Buffer). IsDataBytes a.item.bytes) arrivals
fronts_of [] h = tt
fronts_of (a ∷ arrivals) h = (h.0.front, fronts_of arrivals h.1)

pub data_of : (size : ℕ) (arrivals : List (Entry Buffer)) (drained : ℕ) (before : List (TimeStamp × ℕ × Buffer)) (given : TimeStamp × ℕ × Buffer) → AllByRecursion IsDataEntry arrivals
    → releases size arrivals drained ≡ before ++ given ∷ [] → IsDataBytes given.2.bytes
data_of size arrivals drained before given entries e =
    let fronts : AllByRecursion (λ (r : TimeStamp × ℕ × Buffer). IsDataBytes r.2.bytes) (releases size arrivals drained) =
    every-release (λ stamp item. IsDataBytes item.bytes) size arrivals drained (fronts_of arrivals entries) in
    last_one (λ (r : TimeStamp × ℕ × Buffer). IsDataBytes r.2.bytes) before given (subst (AllByRecursion (λ (r : TimeStamp × ℕ × Buffer). IsDataBytes r.2.bytes)) e fronts)

module _ (same : Buffer → Buffer → Bool) (old new : Holding Buffer) (told : Bool) (buf : Buffer)
    (result : Result (Option (TimeStamp × ℕ × Buffer)) (Turned × Buffer)) (seen : ArePacketsSeen old told) (off : told ≡ false)
    (takes : (arrivals : List (Entry Buffer)) → window.StandsFor old arrivals 0 → Takes same old new arrivals (data_entry buf) result) (front : IsDataBytes buf.bytes) where
  data_taken : Takes same old new seen.arrivals (data_entry buf) result
  data_taken = takes seen.arrivals (seen_now old seen.arrivals seen.drained told seen.stands seen.undrained off)

  data_entries : AllByRecursion IsDataEntry (seen.arrivals ++ data_entry buf ∷ [])
  data_entries = every-push IsDataEntry seen.arrivals (data_entry buf) seen.entries (record { stamp = refl; front = front })

  front_some : (released : Option (TimeStamp × ℕ × Buffer)) → releases old.size (seen.arrivals ++ data_entry buf ∷ []) 0 ≡ releases old.size seen.arrivals 0 ++ released_list released
      → IfSome released (λ r. IsDataBytes r.2.bytes)
  front_some None e = tt
  front_some (Some r) e = data_of old.size (seen.arrivals ++ data_entry buf ∷ []) 0 (releases old.size seen.arrivals 0) r data_entries e

  pub front_released : (released : Option (TimeStamp × ℕ × Buffer)) → result ≡ Ok released → IfSome released (λ r. IsDataBytes r.2.bytes)
  front_released released e =
      front_some released (data_taken.given ∙ ap (λ (r : Result (Option (TimeStamp × ℕ × Buffer)) (Turned × Buffer)). releases old.size seen.arrivals 0 ++ releases_by r) e)

  pub seen_data : ArePacketsSeen new told
  seen_data = record { arrivals = seen.arrivals ++ data_entry buf ∷ []; drained = 0; stands = data_taken.stands; undrained = λ h. refl; entries = data_entries }

  pub turned_data : (e : Turned × Buffer) → result ≡ Err e → new ≡ old
  turned_data e f = err_same result e (new ≡ old) f data_taken.unchanged

  pub buffer_back : (e : Turned × Buffer) → result ≡ Err e → e.1 ≡ buf
  buffer_back e f = handed_back same old.size seen.arrivals (data_entry buf) e (sym f ∙ data_taken.answered)

module _ (same : Buffer → Buffer → Bool) (limits : Limits) (old new : Holding Buffer) (contexts : Holding ContextRec) (state after : State) (told : Bool) (buf : Buffer)
    (result : Result (Option (TimeStamp × ℕ × Buffer)) (Turned × Buffer)) (off : told ≡ false)
    (takes : (arrivals : List (Entry Buffer)) → window.StandsFor old arrivals 0 → Takes same old new arrivals (data_entry buf) result) (size : new.size ≡ old.size)
    (calls : List Call) (taken : ℕ) (h : Follows limits contexts old state told calls taken) where
  data_calls_taken : Takes same old new (data_arrivals calls) (data_entry buf) result
  data_calls_taken = takes (data_arrivals calls) (seen_now old (data_arrivals calls) h.packets_drained told h.packets_stand (λ e. (h.undrained e).1) off)

  pub answer_data : result ≡ outcome (answer same limits.data_window (data_arrivals calls) (data_entry buf))
  answer_data = data_calls_taken.answered ∙ ap (λ n. outcome (answer same n (data_arrivals calls) (data_entry buf))) h.data_size

  pub follows_data : (rs : List (TimeStamp × ℕ × Buffer)) → releases_by result ≡ rs
      → ((events : List Event) → queue.StandsFor state limits events taken → queue.StandsFor after limits (events ++ map data_event rs) taken)
      → Follows limits contexts new after told (calls ++ DataCall buf ∷ []) taken
  follows_data rs e history =
      let more = calls ++ DataCall buf ∷ [] in
      let arrivals = data_arrivals-append calls (DataCall buf ∷ []) in
      let context_same : context_arrivals calls ≡ context_arrivals more = sym (append-nil (context_arrivals calls)) ∙ sym (context_arrivals-append calls (DataCall buf ∷ [])) in
      let told_same : is_told more ≡ is_told calls = is_told-append calls (DataCall buf ∷ []) ∙ or_false (is_told calls) in
      let untold : is_told calls ≡ false = sym h.is_told_too ∙ off in
      let before = releases limits.data_window (data_arrivals calls) 0 in
      let gains : releases limits.data_window (data_arrivals calls ++ data_entry buf ∷ []) 0 ≡ before ++ rs =
      ap (λ n. releases n (data_arrivals calls ++ data_entry buf ∷ []) 0) (sym h.data_size) ∙ data_calls_taken.given
      ∙ ap (λ xs. releases old.size (data_arrivals calls) 0 ++ xs) e ∙ ap (λ n. releases n (data_arrivals calls) 0 ++ rs) h.data_size in
      let event : events_by limits calls (DataCall buf) ≡ map data_event rs =
      ap (λ xs. map data_event (behind before xs)) gains ∙ ap (map data_event) (behind-append before rs) in
      let none : (cs : List Call) (c d : ℕ) (ended : Bool) → is_told cs ≡ false → left_events limits cs c d ended ≡ [] =
      λ cs c d ended f. ap (λ b. cond b (cond ended [] (end_events limits cs c d)) []) f in
      let done_is : h.done ≡ events_of limits calls =
      sym (append-nil h.done) ∙ ap (λ xs. h.done ++ xs) (sym (none calls h.contexts_drained h.packets_drained state.ended untold)) ∙ h.left in
      record {
        context_size = h.context_size;
        data_size = size ∙ h.data_size;
        contexts_drained = h.contexts_drained;
        contexts_stand = subst (λ (xs : List (Entry ContextRec)). window.StandsFor contexts xs h.contexts_drained) context_same h.contexts_stand;
        packets_drained = 0;
        packets_stand = subst (λ (xs : List (Entry Buffer)). window.StandsFor new xs 0) (sym arrivals) data_calls_taken.stands;
        is_told_too = h.is_told_too ∙ sym told_same;
        undrained = λ f. ((h.undrained f).0, refl);
        done = h.done ++ map data_event rs;
        queue_stands = history h.done h.queue_stands;
        left = ap (λ xs. (h.done ++ map data_event rs) ++ xs) (none more h.contexts_drained 0 after.ended (told_same ∙ untold)) ∙ append-nil (h.done ++ map data_event rs)
            ∙ ap (λ xs. xs ++ map data_event rs) done_is ∙ ap (λ xs. events_of limits calls ++ xs) (sym event) ∙ sym (events_of-more limits calls (DataCall buf));
      }

-- while the end was not told, nothing was drained from a window
pub undrained_contexts : (kept given : ℕ) (holding : Holding ContextRec) (line : TimelineState) (told : Bool) → AreContextsSeen kept given holding line told → told ≡ false → IsUndrained holding
undrained_contexts kept given holding line told seen untold = record {
  arrivals = seen.arrivals;
  stands = subst (λ n. window.StandsFor holding seen.arrivals n) (seen.undrained untold) seen.stands;
}

pub undrained_packets : (holding : Holding Buffer) (told : Bool) → ArePacketsSeen holding told → told ≡ false → IsUndrained holding
undrained_packets holding told seen untold = record {
  arrivals = seen.arrivals;
  stands = subst (λ n. window.StandsFor holding seen.arrivals n) (seen.undrained untold) seen.stands;
}
