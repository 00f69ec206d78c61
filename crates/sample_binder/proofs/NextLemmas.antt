-- The end is told, and the next output is taken.
use Rattle.std.proofs.Common.{◌≡◌, ◌≢◌, ◌↔◌, IsTrue, ◌⊎◌, ℕ, ◌+◌, ◌<◌, ◌≤◌, Bool, true, false, cond, List, [], ◌∷◌, ◌++◌, length, drop, map, slice_get, Some, None, refl, sym, ap, ◌∙◌, subst, inl, inr, arith, length-append, length-drop}
use Rattle.std.proofs.lemmas.List.{append-nil, drop-append-le, length-take-le}
use Rattle.std.proofs.lemmas.Option.{slice_get_past, slice_get_within}
use Rattle.vrt_words.specs.Buffer.{Buffer}
use Rattle.difi_context.specs.declared.context.ContextRec.{ContextRec}
use Rattle.context_timeline.specs.State.{TimelineState}
use Rattle.reorder_window.specs.declared.entry.Entry.{Entry}
use Rattle.reorder_window.specs.State as window
use Rattle.reorder_window.specs.State.{Holding}
use Rattle.reorder_window.specs.Window.{accepted, number_held, releases}
use Rattle.vrt_fields.specs.declared.limits.Limits.{Limits}
use Rattle.sample_binder.specs.declared.out.Out.{Out}
use Rattle.sample_binder.proofs.Cases.{tested}
use Rattle.sample_binder.specs.Binder.{BinderState, IsBinderState, Follows, AreContextsSeen, ArePacketsSeen, left_events, end_events}
use Rattle.sample_binder.specs.Calls.{Call, EndCall, context_arrivals, data_arrivals, is_told, context_event, data_event, behind, all_releases, events_by, events_of, outputs_of}
use Rattle.sample_binder.specs.Drained.{MayDrain}
use Rattle.sample_binder.specs.Events.{Event, EndEvent}
use Rattle.sample_binder.proofs.OutputLaws.{first_of}
use Rattle.sample_binder.specs.Outputs.{outputs}
use Rattle.sample_binder.proofs.PrefixLaws.{outputs-prefix}
use Rattle.sample_binder.specs.Queue.{State, owed}
use Rattle.sample_binder.specs.Queue as queue
use Rattle.sample_binder.proofs.BinderLemmas.{context_arrivals-append, data_arrivals-append, is_told-append, or_true, events_of-more}

-- ---- the end is told

pub told_contexts : (kept given : ℕ) (holding : Holding ContextRec) (line : TimelineState) (told : Bool) → AreContextsSeen kept given holding line told → AreContextsSeen kept given holding line true
told_contexts kept given holding line told s =
    record { arrivals = s.arrivals; drained = s.drained; stands = s.stands; undrained = λ e. absurd (cc); entries = s.entries; line_is = s.line_is; few = s.few }

pub may_drain_now : (bound : BinderState) → IsBinderState bound → MayDrain bound.contexts bound.state.line
may_drain_now bound h = record {
  kept = bound.limits.kept;
  given = bound.given;
  some = omega (arith, h.limits.least_kept);
  few = h.few;
  seen = told_contexts bound.limits.kept bound.given bound.contexts bound.state.line bound.told h.seen.contexts_seen;
}

pub follows_told : (limits : Limits) (contexts : Holding ContextRec) (packets : Holding Buffer) (state : State) (told : Bool) (calls : List Call) (taken : ℕ) → told ≡ false → state.ended ≡ false
    → Follows limits contexts packets state told calls taken → Follows limits contexts packets state true (calls ++ EndCall ∷ []) taken
follows_told limits contexts packets state told calls taken off running h =
    let more = calls ++ EndCall ∷ [] in
    let contexts_same : context_arrivals calls ≡ context_arrivals more = sym (append-nil (context_arrivals calls)) ∙ sym (context_arrivals-append calls (EndCall ∷ [])) in
    let data_same : data_arrivals calls ≡ data_arrivals more = sym (append-nil (data_arrivals calls)) ∙ sym (data_arrivals-append calls (EndCall ∷ [])) in
    let on : is_told more ≡ true = is_told-append calls (EndCall ∷ []) ∙ or_true (is_told calls) in
    let untold : is_told calls ≡ false = sym h.is_told_too ∙ off in
    let none = h.undrained off in
    let events : List (Entry ContextRec) → List (Entry Buffer) → List Event = λ cs ds.
    map context_event (behind (releases limits.context_window cs 0) (all_releases limits.context_window cs)) ++ (map data_event (behind (releases limits.data_window ds 0) (all_releases limits.data_window ds)) ++ EndEvent ∷ []) in
    let now : left_events limits more 0 0 state.ended ≡ events_by limits calls EndCall =
    ap (λ b. cond b (cond state.ended [] (end_events limits more 0 0)) []) on ∙ ap (λ b. cond b [] (end_events limits more 0 0)) running
    ∙ ap (λ cs. events cs (data_arrivals more)) (sym contexts_same) ∙ ap (events (context_arrivals calls)) (sym data_same) in
    let before : left_events limits calls h.contexts_drained h.packets_drained state.ended ≡ [] =
    ap (λ b. cond b (cond state.ended [] (end_events limits calls h.contexts_drained h.packets_drained)) []) untold in
    let done_is : h.done ≡ events_of limits calls = sym (append-nil h.done) ∙ ap (λ es. h.done ++ es) (sym before) ∙ h.left in
    record {
      context_size = h.context_size;
      data_size = h.data_size;
      contexts_drained = 0;
      contexts_stand = subst (λ (cs : List (Entry ContextRec)). window.StandsFor contexts cs 0) contexts_same (subst (λ d. window.StandsFor contexts (context_arrivals calls) d) none.0 h.contexts_stand);
      packets_drained = 0;
      packets_stand = subst (λ (ds : List (Entry Buffer)). window.StandsFor packets ds 0) data_same (subst (λ d. window.StandsFor packets (data_arrivals calls) d) none.1 h.packets_stand);
      is_told_too = sym on;
      undrained = λ e. absurd (cc);
      done = h.done;
      queue_stands = h.queue_stands;
      left = ap (λ es. h.done ++ es) now ∙ ap (λ es. es ++ events_by limits calls EndCall) done_is ∙ sym (events_of-more limits calls EndCall);
    }

-- ---- the next output

pub follows_next : (limits : Limits) (contexts : Holding ContextRec) (packets : Holding Buffer) (state after : State) (told : Bool) (calls : List Call) (taken : ℕ) → after.ended ≡ state.ended
    → ((events : List Event) → queue.StandsFor state limits events taken → queue.StandsFor after limits events (taken + 1))
    → Follows limits contexts packets state told calls taken → Follows limits contexts packets after told calls (taken + 1)
follows_next limits contexts packets state after told calls taken ended history h = record {
  context_size = h.context_size;
  data_size = h.data_size;
  contexts_drained = h.contexts_drained;
  contexts_stand = h.contexts_stand;
  packets_drained = h.packets_drained;
  packets_stand = h.packets_stand;
  is_told_too = h.is_told_too;
  undrained = h.undrained;
  done = h.done;
  queue_stands = history h.done h.queue_stands;
  left = ap (λ b. h.done ++ left_events limits calls h.contexts_drained h.packets_drained b) ended ∙ h.left;
}

module _ (limits : Limits) (contexts : Holding ContextRec) (packets : Holding Buffer) (state : State) (told : Bool) (calls : List Call) (taken : ℕ)
    (h : Follows limits contexts packets state told calls taken) where
  -- what is owed is next among all outputs of the calls
  next_among : (given : Out) (rest : List Out) → owed state ≡ given ∷ rest → (later : List Out) × (drop taken (outputs_of limits calls) ≡ given ∷ later)
  next_among given rest e =
      let later = left_events limits calls h.contexts_drained h.packets_drained state.ended in
      let p = outputs-prefix limits later h.done in
      let all : outputs_of limits calls ≡ outputs limits h.done ++ p.0 = ap (outputs limits) (sym h.left) ∙ p.1 in (
        rest ++ p.0,
        ap (drop taken) all ∙ drop-append-le taken (outputs limits h.done) p.0 h.queue_stands.taken_within ∙ ap (λ xs. xs ++ p.0) (h.queue_stands.rest ∙ e),
      )

  -- no more outputs were taken than there are
  pub taken_within : taken ≤ length (outputs_of limits calls)
  taken_within =
      let p = outputs-prefix limits (left_events limits calls h.contexts_drained h.packets_drained state.ended) h.done in
      let all : outputs_of limits calls ≡ outputs limits h.done ++ p.0 = ap (outputs limits) (sym h.left) ∙ p.1 in
      omega (arith, h.queue_stands.taken_within, ap length all, length-append (outputs limits h.done) p.0)

  pub given_next : (given : Out) (rest : List Out) → owed state ≡ given ∷ rest → Some given ≡ slice_get (outputs_of limits calls) taken
  given_next given rest e =
      let n = next_among given rest e in
      sym (first_of taken (outputs_of limits calls) given n.0 n.1).0

  -- where nothing is owed, and the end has come if it was told, nothing is left
  pub none_past : owed state ≡ [] → (told ≡ true → state.ended ≡ true) → length (outputs_of limits calls) ≤ taken
  none_past e at_rest =
      let left : left_events limits calls h.contexts_drained h.packets_drained state.ended ≡ [] = none_left (tested told) in
      let all : events_of limits calls ≡ h.done = sym h.left ∙ ap (λ es. h.done ++ es) left ∙ append-nil h.done in
      omega (arith, ap (λ es. length (outputs limits es)) all, ap length (h.queue_stands.rest ∙ e), length-drop taken (outputs limits h.done))
    where
      none_left : (told ≡ true) ⊎ (told ≡ false) → left_events limits calls h.contexts_drained h.packets_drained state.ended ≡ []
      none_left (inl on) =
          ap (λ b. cond b (cond state.ended [] (end_events limits calls h.contexts_drained h.packets_drained)) []) (sym h.is_told_too ∙ on)
          ∙ ap (λ b. cond b [] (end_events limits calls h.contexts_drained h.packets_drained)) (at_rest on)
      none_left (inr off) = ap (λ b. cond b (cond state.ended [] (end_events limits calls h.contexts_drained h.packets_drained)) []) (sym h.is_told_too ∙ off)

  pub none_next : owed state ≡ [] → (told ≡ true → state.ended ≡ true) → None ≡ slice_get (outputs_of limits calls) taken
  none_next e at_rest = sym (slice_get_past (outputs_of limits calls) taken (none_past e at_rest))

  -- whether something is owed tells whether an output is left
  pub owes_due : (told ≡ true → owed state ≡ [] → state.ended ≡ true) → (b : Bool) → (IsTrue b ↔ (owed state ≢ [])) → (IsTrue b ↔ (taken < length (outputs_of limits calls)))
  owes_due at_rest b t = (λ on. some (owed state) refl (t.0 on), λ lt. t.1 (λ none. absurd (omega (arith, none_past none (λ on. at_rest on none)))))
    where
      some : (xs : List Out) → owed state ≡ xs → (owed state ≢ []) → taken < length (outputs_of limits calls)
      some [] e f = absurd (f e)
      some (given ∷ rest) e f = slice_get_within (outputs_of limits calls) taken given (sym (given_next given rest e))

-- no more are held than the window's size
pub held_within : (holding : Holding Buffer) (told : Bool) → ArePacketsSeen holding told → length holding.held ≤ holding.size
held_within holding told s =
    let xs = accepted holding.size s.arrivals in
    omega (arith, ap length s.stands.held, length-take-le (number_held holding.size s.arrivals s.drained) xs (omega arith))
