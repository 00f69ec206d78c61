-- What draining the windows makes of a binder.
use Rattle.std.proofs.Common.{◌≡◌, ◌≢◌, ◌↔◌, IsTrue, ℕ, ◌+◌, Bool, true, false, cond, List, [], ◌∷◌, ◌++◌, length, map, Some, refl, sym, ap, ◌∙◌, subst, arith, append_assoc}
use Rattle.std.proofs.lemmas.List.{append-nil}
use Rattle.vrt_words.specs.Buffer.{Buffer}
use Rattle.vrt_time.specs.Time.{TimeStamp}
use Rattle.difi_context.specs.declared.context.ContextRec.{ContextRec}
use Rattle.context_timeline.specs.State.{TimelineState, state_of, with_context}
use Rattle.reorder_window.specs.declared.entry.Entry.{Entry}
use Rattle.reorder_window.specs.State as window
use Rattle.reorder_window.specs.State.{Holding}
use Rattle.reorder_window.specs.Window.{AreFalling, accepted, held, releases}
use Rattle.vrt_fields.specs.declared.limits.Limits.{Limits}
use Rattle.sample_binder.specs.declared.out.Out.{Out}
use Rattle.sample_binder.specs.Binder.{Follows, AreContextsSeen, ArePacketsSeen, left_events, end_events}
use Rattle.sample_binder.specs.Calls.{Call, context_arrivals, data_arrivals, is_told, context_event, data_event, behind, all_releases}
use Rattle.sample_binder.specs.Drained.{MayDrain}
use Rattle.sample_binder.specs.Events.{Event, EndEvent}
use Rattle.sample_binder.specs.Given.{IsLater, IsDataBytes}
use Rattle.sample_binder.specs.Queue.{State}
use Rattle.sample_binder.specs.Queue as queue
use Rattle.sample_binder.specs.Released.{released_context}
use Rattle.sample_binder.proofs.ArrivalLemmas.{drained_first, none_left}
use Rattle.sample_binder.proofs.BinderLemmas.{later_of, line_with, data_of}

-- ---- contexts

module _ (old new : Holding ContextRec) (line : TimelineState) (given : TimeStamp × ℕ × ContextRec) (size : new.size ≡ old.size)
    (gives : (arrivals : List (Entry ContextRec)) (drained : ℕ) → window.StandsFor old arrivals drained → releases old.size arrivals (drained + 1) ≡ releases old.size arrivals drained ++ given ∷ [])
    (stands : (arrivals : List (Entry ContextRec)) (drained : ℕ) → window.StandsFor old arrivals drained → window.StandsFor new arrivals (drained + 1)) where
  pub later_drained : MayDrain old line → ((n : ℕ) (arrivals : List (Entry ContextRec)) → AreFalling (accepted n arrivals)) → IsLater line given.2
  later_drained h falling =
      let s = h.seen in
      subst (λ (l : TimelineState). IsLater l given.2) (sym s.line_is)
      (later_of h.kept old.size s.arrivals (s.drained + 1) (releases old.size s.arrivals s.drained) given h.some s.entries (falling old.size s.arrivals) (gives s.arrivals s.drained s.stands))

  pub seen_drained : (kept count : ℕ) → AreContextsSeen kept count old line true → AreContextsSeen kept count new (with_context line (released_context given)) true
  seen_drained kept count s = record {
    arrivals = s.arrivals;
    drained = s.drained + 1;
    stands = stands s.arrivals s.drained s.stands;
    undrained = λ e. absurd (cc);
    entries = s.entries;
    line_is = ap (λ (l : TimelineState). with_context l (released_context given)) s.line_is ∙ line_with kept (releases old.size s.arrivals s.drained) (Some given)
        ∙ ap (λ rs. state_of kept (map released_context rs)) (sym (gives s.arrivals s.drained s.stands)) ∙ ap (λ n. state_of kept (map released_context (releases n s.arrivals (s.drained + 1)))) (sym size);
    few = omega (arith, s.few, ap (λ n. length (accepted n s.arrivals)) size);
  }

  pub follows_drained : (limits : Limits) (packets : Holding Buffer) (state after : State) (calls : List Call) (taken : ℕ) → state.ended ≡ false → after.ended ≡ false
      → ((events : List Event) → queue.StandsFor state limits events taken → queue.StandsFor after limits (events ++ context_event given ∷ []) taken)
      → Follows limits old packets state true calls taken → Follows limits new packets after true calls taken
  follows_drained limits packets state after calls taken running still history h =
      let told : is_told calls ≡ true = sym h.is_told_too in
      let arrivals = context_arrivals calls in
      let d = h.contexts_drained in
      let gives_here : releases limits.context_window arrivals (d + 1) ≡ releases limits.context_window arrivals d ++ given ∷ [] =
      subst (λ n. releases n arrivals (d + 1) ≡ releases n arrivals d ++ given ∷ []) h.context_size (gives arrivals d h.contexts_stand) in
      let first = drained_first limits.context_window arrivals d given gives_here in
      let rest = end_events limits calls (d + 1) h.packets_drained in
      let events : end_events limits calls d h.packets_drained ≡ context_event given ∷ rest =
      ap (λ rs. map context_event rs ++ (map data_event (behind (releases limits.data_window (data_arrivals calls) h.packets_drained) (all_releases limits.data_window (data_arrivals calls))) ++ EndEvent ∷ [])) first in
      let choose : (ended : Bool) (d : ℕ) → ended ≡ false → left_events limits calls d h.packets_drained ended ≡ end_events limits calls d h.packets_drained =
      λ ended d e. ap (λ b. cond b (cond ended [] (end_events limits calls d h.packets_drained)) []) told ∙ ap (λ b. cond b [] (end_events limits calls d h.packets_drained)) e in
      record {
        context_size = size ∙ h.context_size;
        data_size = h.data_size;
        contexts_drained = d + 1;
        contexts_stand = stands arrivals d h.contexts_stand;
        packets_drained = h.packets_drained;
        packets_stand = h.packets_stand;
        is_told_too = h.is_told_too;
        undrained = λ e. absurd (cc);
        done = h.done ++ context_event given ∷ [];
        queue_stands = history h.done h.queue_stands;
        left = ap (λ es. (h.done ++ context_event given ∷ []) ++ es) (choose after.ended (d + 1) still) ∙ append_assoc h.done (context_event given ∷ []) rest
            ∙ ap (λ es. h.done ++ es) (sym events ∙ sym (choose state.ended d running)) ∙ h.left;
      }

-- ---- data packets

-- where no context is held, no event of one is left
contexts_left : (limits : Limits) (contexts : Holding ContextRec) (packets : Holding Buffer) (state : State) (calls : List Call) (taken : ℕ) → contexts.held ≡ []
    → (h : Follows limits contexts packets state true calls taken)
    → map context_event (behind (releases limits.context_window (context_arrivals calls) h.contexts_drained) (all_releases limits.context_window (context_arrivals calls))) ≡ []
contexts_left limits contexts packets state calls taken e h =
    let none : held limits.context_window (context_arrivals calls) h.contexts_drained ≡ [] =
    ap (λ n. held n (context_arrivals calls) h.contexts_drained) (sym h.context_size) ∙ sym h.contexts_stand.held ∙ e in
    ap (map context_event) (none_left limits.context_window (context_arrivals calls) h.contexts_drained none)

packets_left : (limits : Limits) (contexts : Holding ContextRec) (packets : Holding Buffer) (state : State) (calls : List Call) (taken : ℕ) → packets.held ≡ []
    → (h : Follows limits contexts packets state true calls taken)
    → map data_event (behind (releases limits.data_window (data_arrivals calls) h.packets_drained) (all_releases limits.data_window (data_arrivals calls))) ≡ []
packets_left limits contexts packets state calls taken e h =
    let none : held limits.data_window (data_arrivals calls) h.packets_drained ≡ [] =
    ap (λ n. held n (data_arrivals calls) h.packets_drained) (sym h.data_size) ∙ sym h.packets_stand.held ∙ e in
    ap (map data_event) (none_left limits.data_window (data_arrivals calls) h.packets_drained none)

module _ (old new : Holding Buffer) (given : TimeStamp × ℕ × Buffer) (size : new.size ≡ old.size)
    (gives : (arrivals : List (Entry Buffer)) (drained : ℕ) → window.StandsFor old arrivals drained → releases old.size arrivals (drained + 1) ≡ releases old.size arrivals drained ++ given ∷ [])
    (stands : (arrivals : List (Entry Buffer)) (drained : ℕ) → window.StandsFor old arrivals drained → window.StandsFor new arrivals (drained + 1)) where
  pub front_drained : ArePacketsSeen old true → IsDataBytes given.2.bytes
  front_drained s = data_of old.size s.arrivals (s.drained + 1) (releases old.size s.arrivals s.drained) given s.entries (gives s.arrivals s.drained s.stands)

  pub packets_drained : ArePacketsSeen old true → ArePacketsSeen new true
  packets_drained s = record { arrivals = s.arrivals; drained = s.drained + 1; stands = stands s.arrivals s.drained s.stands; undrained = λ e. absurd (cc); entries = s.entries }

  pub follows_data_drained : (limits : Limits) (contexts : Holding ContextRec) (state after : State) (calls : List Call) (taken : ℕ) → contexts.held ≡ [] → state.ended ≡ false → after.ended ≡ false
      → ((events : List Event) → queue.StandsFor state limits events taken → queue.StandsFor after limits (events ++ data_event given ∷ []) taken)
      → Follows limits contexts old state true calls taken → Follows limits contexts new after true calls taken
  follows_data_drained limits contexts state after calls taken none running still history h =
      let told : is_told calls ≡ true = sym h.is_told_too in
      let arrivals = data_arrivals calls in
      let d = h.packets_drained in
      let gives_here : releases limits.data_window arrivals (d + 1) ≡ releases limits.data_window arrivals d ++ given ∷ [] =
      subst (λ n. releases n arrivals (d + 1) ≡ releases n arrivals d ++ given ∷ []) h.data_size (gives arrivals d h.packets_stand) in
      let first = drained_first limits.data_window arrivals d given gives_here in
      let front = contexts_left limits contexts old state calls taken none h in
      let rest : ℕ → List Event = λ n. map data_event (behind (releases limits.data_window arrivals n) (all_releases limits.data_window arrivals)) ++ EndEvent ∷ [] in
      let only : (n : ℕ) → end_events limits calls h.contexts_drained n ≡ rest n = λ n. ap (λ es. es ++ rest n) front in
      let events : rest d ≡ data_event given ∷ rest (d + 1) = ap (λ rs. map data_event rs ++ EndEvent ∷ []) first in
      let choose : (ended : Bool) (n : ℕ) → ended ≡ false → left_events limits calls h.contexts_drained n ended ≡ rest n =
      λ ended n e. ap (λ b. cond b (cond ended [] (end_events limits calls h.contexts_drained n)) []) told ∙ ap (λ b. cond b [] (end_events limits calls h.contexts_drained n)) e ∙ only n in
      record {
        context_size = h.context_size;
        data_size = size ∙ h.data_size;
        contexts_drained = h.contexts_drained;
        contexts_stand = h.contexts_stand;
        packets_drained = d + 1;
        packets_stand = stands arrivals d h.packets_stand;
        is_told_too = h.is_told_too;
        undrained = λ e. absurd (cc);
        done = h.done ++ data_event given ∷ [];
        queue_stands = history h.done h.queue_stands;
        left = ap (λ es. (h.done ++ data_event given ∷ []) ++ es) (choose after.ended (d + 1) still) ∙ append_assoc h.done (data_event given ∷ []) (rest (d + 1))
            ∙ ap (λ es. h.done ++ es) (sym events ∙ sym (choose state.ended d running)) ∙ h.left;
      }

-- ---- the end

pub follows_end : (limits : Limits) (contexts : Holding ContextRec) (packets : Holding Buffer) (state after : State) (calls : List Call) (taken : ℕ) → contexts.held ≡ [] → packets.held ≡ []
    → state.ended ≡ false → after.ended ≡ true → ((events : List Event) → queue.StandsFor state limits events taken → queue.StandsFor after limits (events ++ EndEvent ∷ []) taken)
    → Follows limits contexts packets state true calls taken → Follows limits contexts packets after true calls taken
follows_end limits contexts packets state after calls taken none empty running ended history h =
    let told : is_told calls ≡ true = sym h.is_told_too in
    let c = h.contexts_drained in
    let d = h.packets_drained in
    let front = contexts_left limits contexts packets state calls taken none h in
    let middle = packets_left limits contexts packets state calls taken empty h in
    let data_events : List Event = map data_event (behind (releases limits.data_window (data_arrivals calls) d) (all_releases limits.data_window (data_arrivals calls))) in
    let last : end_events limits calls c d ≡ EndEvent ∷ [] = ap (λ es. es ++ (data_events ++ EndEvent ∷ [])) front ∙ ap (λ es. es ++ EndEvent ∷ []) middle in
    let before : left_events limits calls c d state.ended ≡ EndEvent ∷ [] =
    ap (λ b. cond b (cond state.ended [] (end_events limits calls c d)) []) told ∙ ap (λ b. cond b [] (end_events limits calls c d)) running ∙ last in
    let behind_it : left_events limits calls c d after.ended ≡ [] =
    ap (λ b. cond b (cond after.ended [] (end_events limits calls c d)) []) told ∙ ap (λ b. cond b [] (end_events limits calls c d)) ended in
    record {
      context_size = h.context_size;
      data_size = h.data_size;
      contexts_drained = c;
      contexts_stand = h.contexts_stand;
      packets_drained = d;
      packets_stand = h.packets_stand;
      is_told_too = h.is_told_too;
      undrained = h.undrained;
      done = h.done ++ EndEvent ∷ [];
      queue_stands = history h.done h.queue_stands;
      left = ap (λ es. (h.done ++ EndEvent ∷ []) ++ es) behind_it ∙ append-nil (h.done ++ EndEvent ∷ []) ∙ ap (λ es. h.done ++ es) (sym before) ∙ h.left;
    }

-- ---- one event after another

pub none_owed : (b : Bool) (xs : List Out) → (IsTrue b ↔ (xs ≢ [])) → b ≡ false → xs ≡ []
none_owed b [] h e = refl
none_owed b (x ∷ xs) h e = let on : b ≡ true = h.1 (λ f. absurd (cc)) in absurd (cc)
